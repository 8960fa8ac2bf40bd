-- The words of this crate that clauses and proofs use, from one place.
pub use Rattle.prl_names.specs.Applications.{applied_by, applied_equations, applied_in}
pub use Rattle.prl_names.specs.Applications.{applied_root, applied_trees, applies, is_node, once}
pub use Rattle.prl_names.specs.Applications.{reaches, recursive_from, then}
unfoldable pub use Rattle.prl_names.specs.Applications.{reaches_by, recursive_of}
pub use Rattle.prl_names.specs.Checks.{device_names, last_index, main_of, main_or, name_of, refused}
pub use Rattle.prl_names.specs.Checks.{without_device}
unfoldable pub use Rattle.prl_names.specs.Checks.{names_of}
pub use Rattle.prl_names.specs.ExprLists.{all_trees}
pub use Rattle.prl_names.specs.Lookups.{callee_of, import_names, index_from, index_of, node_names}
pub use Rattle.prl_names.specs.Lookups.{node_or, param_at, param_names, param_of, params_of}
pub use Rattle.prl_names.specs.Marks.{Adds, AreRows, IsRow, all_led_through, led_through, mark_of}
pub use Rattle.prl_names.specs.Marks.{or_marks, row_of}
pub use Rattle.prl_names.specs.Mentions.{all_placed, names_in, placed_device, placed_import}
pub use Rattle.prl_names.specs.Mentions.{placed_node, placed_of, placed_param}
pub use Rattle.prl_names.specs.Named.{AllAreAmong, AreApart, AreKnown, AreKnownEquations}
pub use Rattle.prl_names.specs.Named.{AreKnownLefts, HasDevices, IsKnown, IsKnownRoot, IsNamed}
pub use Rattle.prl_names.specs.Named.{IsNamedNode, placed_names}
pub use Rattle.prl_names.specs.Repeats.{definition_space, earliest_repeat, first_of, flow_space}
pub use Rattle.prl_names.specs.Repeats.{front_before, global_spaces, is_among, is_flow, lefts_of}
pub use Rattle.prl_names.specs.Repeats.{merged, port_space, repeat_after, repeat_in, rest_from}
unfoldable pub use Rattle.prl_names.specs.Repeats.{repeat_of}
pub use Rattle.prl_names.specs.Tables.{AreIndices, AreParams, found}
pub use Rattle.prl_names.specs.Unknowns.{absent_by, absent_from, either_name, left_names}
pub use Rattle.prl_names.specs.Unknowns.{undefined_among, undefined_in, unknown_equations}
pub use Rattle.prl_names.specs.Unknowns.{unknown_from, unknown_in, unknown_lefts, unknown_root}
pub use Rattle.prl_names.specs.Unknowns.{unknown_trees, unless}
unfoldable pub use Rattle.prl_names.specs.Unknowns.{undefined_of, unknown_of}
pub use Rattle.prl_names.specs.Uses.{all_applied, applied_names, expanded_from, expanded_names}
pub use Rattle.prl_names.specs.Uses.{is_expanded, node_applied, root_names, used_among}
pub use Rattle.prl_names.specs.Uses.{used_imports}
pub use Rattle.prl_names.specs.declared.checks.NameFault.{NameFault}
pub use Rattle.prl_names.specs.declared.lookups.Callee.{Callee}
pub use Rattle.prl_names.specs.declared.mentions.Mention.{Mention}
