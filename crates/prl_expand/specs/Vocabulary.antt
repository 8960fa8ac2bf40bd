-- The words of this crate that clauses and proofs use, from one place.
pub use Rattle.prl_expand.specs.Correspondence.{IsOneToOne}
pub use Rattle.prl_expand.specs.Cycles.{HasName, Passes, PassesName}
pub use Rattle.prl_expand.specs.Expanding.{IsExpandFault, IsExpanded}
pub use Rattle.prl_expand.specs.Expansions.{AreCounted, Expansion, IsExpansion}
pub use Rattle.prl_expand.specs.Flats.{Numbered, Types, all_numbered, arguments, copies, copy_of}
pub use Rattle.prl_expand.specs.Flats.{devices_of, entered_apps, entered_flows, equated, flat_of}
pub use Rattle.prl_expand.specs.Flats.{flow_no, import_at, made_flow, operator_flows, output_flows}
pub use Rattle.prl_expand.specs.Flats.{paired, placed, ports_of, resolved, sensors_from, source_of}
pub use Rattle.prl_expand.specs.Flats.{type_at, variable_flow, variable_flows}
pub use Rattle.prl_expand.specs.code.Adding.{Adds, IsMadeWithin}
pub use Rattle.prl_expand.specs.code.Limits.{IsFew, IsFewBefore, IsPast}
pub use Rattle.prl_expand.specs.code.Made.{a_call, a_core, a_node, a_part, all_parts, all_resolved}
pub use Rattle.prl_expand.specs.code.Made.{called_apps, called_flows, called_given, first_type}
pub use Rattle.prl_expand.specs.code.Made.{have_types, head_of, operated_flows, operated_given}
pub use Rattle.prl_expand.specs.code.Made.{operated_types, the_rights, types_given, types_of}
pub use Rattle.prl_expand.specs.code.Numbering.{Enter, all_from, called, entered_from, node_from}
pub use Rattle.prl_expand.specs.code.Numbering.{part_from, past, past_core, past_entered, past_part}
pub use Rattle.prl_expand.specs.code.Numbering.{past_parts, past_rights, rights_from, root_from}
pub use Rattle.prl_expand.specs.code.Terms.{arg_of, flow_of, flows_of, number_of, operators_made}
pub use Rattle.prl_expand.specs.code.Terms.{operators_over, output_terms, outputs_made, placed_at}
pub use Rattle.prl_expand.specs.code.Variables.{copied, def_of, pairs_of, param_of, variables_made}
pub use Rattle.prl_expand.specs.code.Within.{ActFits, CallFits, EquationsFit, IsSound, MayApply, MayEnter}
pub use Rattle.prl_expand.specs.code.Within.{RootFits, TreeFits, TreesFit}
pub use Rattle.prl_expand.specs.declared.counts.ExpandFault.{ExpandFault}
pub use Rattle.prl_expand.specs.declared.counts.Next.{Next}
pub use Rattle.prl_expand.specs.declared.nodes.Made.{Made}
pub use Rattle.prl_expand.specs.declared.variables.Pair.{Pair}
