-- The words of this crate that clauses and proofs use, from one place.
pub use Rattle.prl_types.specs.Arity.{all_faults, counted, equation_faults, equations_faults}
pub use Rattle.prl_types.specs.Arity.{faults_in, first_at, last_at, nodes_faults, postfix_fault}
pub use Rattle.prl_types.specs.Arity.{prefix_fault, root_faults, unless_equal}
unfoldable pub use Rattle.prl_types.specs.Arity.{arity_faults}
pub use Rattle.prl_types.specs.Flows.{Flow, all_flows, flows_of, import_inputs, import_outputs}
pub use Rattle.prl_types.specs.Flows.{inputs_of, node_inputs, node_outputs, operand, operated}
pub use Rattle.prl_types.specs.Flows.{outputs_of, parameters_from, place_of, placed, placed_flows}
pub use Rattle.prl_types.specs.Flows.{port_types, root_flows, terms_of}
pub use Rattle.prl_types.specs.Parameters.{Owned, all_owned, count_of, first_of, named, owned_by}
pub use Rattle.prl_types.specs.Parameters.{parameter_or, parameters_of}
pub use Rattle.prl_types.specs.Rules.{all_rules, argument_rules, declared_rules, equations_rules}
pub use Rattle.prl_types.specs.Rules.{left_rules, nodes_rules, root_rules}
unfoldable pub use Rattle.prl_types.specs.Rules.{rules_of}
pub use Rattle.prl_types.specs.Typing.{FailsWith, HasFreeType, HasParameter, IsOutcome}
pub use Rattle.prl_types.specs.Typing.{IsTyped, of_names}
pub use Rattle.prl_types.specs.code.Contexts.{AreFirsts, AreListed, AreParameters, owned_of}
pub use Rattle.prl_types.specs.code.Segments.{flows_in, listed, terms_in}
pub use Rattle.prl_types.specs.code.Signatures.{Signs, given, import_signature, node_signature}
pub use Rattle.prl_types.specs.code.Signatures.{taken}
pub use Rattle.prl_types.specs.declared.contexts.Parameter.{Parameter}
pub use Rattle.prl_types.specs.declared.faults.TypeFault.{TypeFault}
pub use Rattle.prl_types.specs.declared.segments.Segment.{Segment}
pub use Rattle.prl_types.specs.declared.signatures.Signature.{Signature}
