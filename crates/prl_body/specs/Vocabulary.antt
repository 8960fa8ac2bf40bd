-- The words of this crate that clauses and proofs use, from one place.
pub use Rattle.prl_body.specs.Bodies.{HaveTypes, IsWellTyped, Stepped, body_named, body_step}
pub use Rattle.prl_body.specs.Bodies.{first_values, input_types, next_expressions, output_types}
pub use Rattle.prl_body.specs.Bodies.{register_types, value_expressions}
pub use Rattle.prl_body.specs.Checks.{BodyTree, RegisterTree, all_there, body_tree, checked}
pub use Rattle.prl_body.specs.Checks.{checked_bodies, checked_body, checked_code, checked_one}
pub use Rattle.prl_body.specs.Checks.{has_body, has_text, import_named, left_type, next_value}
pub use Rattle.prl_body.specs.Checks.{output_value, output_values, port_type, register_tree}
pub use Rattle.prl_body.specs.Checks.{register_type, resolved_registers, statement_named, typed_as}
pub use Rattle.prl_body.specs.Checks.{typed_statement, typed_statements, without_fault}
pub use Rattle.prl_body.specs.Codes.{expression_of, pair_expressions, rights_of}
pub use Rattle.prl_body.specs.Directories.{text_names}
pub use Rattle.prl_body.specs.Expressions.{Expression, Rights, name, none}
pub use Rattle.prl_body.specs.Machines.{MachineState}
pub use Rattle.prl_body.specs.NameChecks.{has_port, has_register, has_statement, name_fault}
pub use Rattle.prl_body.specs.NameChecks.{statement_fault, unknown_name, unknown_name_in}
pub use Rattle.prl_body.specs.Scopes.{is_before, left_names, port_names, register_names}
pub use Rattle.prl_body.specs.Texts.{StatementTree, TextTree, Tree, TreeRights, choice, constant}
pub use Rattle.prl_body.specs.Texts.{more, pair_trees, run, series, statement_tree, text_tree}
pub use Rattle.prl_body.specs.Texts.{text_trees, tree_of}
pub use Rattle.prl_body.specs.TypeChecks.{either_variable, input_named, last_at, named}
pub use Rattle.prl_body.specs.TypeChecks.{register_named, typed, typed_name, typed_rights}
pub use Rattle.prl_body.specs.Types.{HasType, RightsHaveType, variable_type}
pub use Rattle.prl_body.specs.Used.{HaveBodiesOf}
pub use Rattle.prl_body.specs.Values.{prefixed_times, value, value_along, variable_value}
pub use Rattle.prl_body.specs.declared.bodies.CheckedBody.{CheckedBody}
pub use Rattle.prl_body.specs.declared.bodies.Register.{Register}
pub use Rattle.prl_body.specs.declared.codes.Code.{Code, Row_of-OperatorAndRight, Series'}
pub use Rattle.prl_body.specs.declared.codes.Code.{end_of-OperatorAndRight}
pub use Rattle.prl_body.specs.declared.codes.Code.{items-the_row-OperatorAndRight}
pub use Rattle.prl_body.specs.declared.codes.Code.{items_hidden-the_row-OperatorAndRight-0}
pub use Rattle.prl_body.specs.declared.codes.Code.{more_of-OperatorAndRight}
pub use Rattle.prl_body.specs.declared.codes.OperatorAndRight.{OperatorAndRight}
pub use Rattle.prl_body.specs.declared.codes.Variable.{Variable}
pub use Rattle.prl_body.specs.declared.faults.BodyFault.{BodyFault}
pub use Rattle.prl_body.specs.declared.texts.BodyText.{BodyText}
pub use Rattle.prl_body.specs.declared.texts.ExprRight.{ExprRight}
pub use Rattle.prl_body.specs.declared.texts.RegisterText.{RegisterText}
pub use Rattle.prl_body.specs.declared.texts.Statement.{Statement}
