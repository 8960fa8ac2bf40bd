-- The words of this crate that clauses and proofs use, from one place.
pub use Rattle.prl_causal.specs.Annotations.{Core, Entered, Part, Parts, Rights, done, flows_in}
pub use Rattle.prl_causal.specs.Annotations.{imports_in, mark_entered, next, right_flows}
pub use Rattle.prl_causal.specs.Asked.{all_given, all_same, at_index, at_lefts, at_variable}
pub use Rattle.prl_causal.specs.Asked.{entered_rules, given, inputs_of, last_of, one}
pub use Rattle.prl_causal.specs.Asked.{outputs_of, program_rules, root_given, sensed_rules}
pub use Rattle.prl_causal.specs.Behaviours.{Behaviour, Satisfies, behaviour_of, state_in}
pub use Rattle.prl_causal.specs.Texts.{AreRights, HasVariables, IsText, node_at, node_of}
pub use Rattle.prl_causal.specs.Texts.{node_or}
pub use Rattle.prl_causal.specs.Conditions.{AreTyped, AreTypedRows, HaveTypedBodies, clocks_in}
pub use Rattle.prl_causal.specs.Conditions.{values_in}
pub use Rattle.prl_causal.specs.Tables.{IsFixed, Reads, Table, applied_of, argument_values, nothing}
pub use Rattle.prl_causal.specs.Tables.{table_of, taken, value_of}
pub use Rattle.prl_causal.specs.Uniqueness.{ExactlyOne}
pub use Rattle.prl_causal.specs.code.Parts.{AreSeen, IsMarked, IsPart, IsWhole, marked_count}
pub use Rattle.prl_causal.specs.code.Searches.{Adds, AreOpened, IsList, IsUnderWay}
pub use Rattle.prl_causal.specs.code.Sorting.{IsSorted, left}
pub use Rattle.prl_causal.specs.code.Sources.{AreArguments, AreSources, AreWithin, IsAmong}
pub use Rattle.prl_causal.specs.code.Sources.{IsSource, Names, UsesBy, all_inside, all_undelayed}
pub use Rattle.prl_causal.specs.code.Sources.{inside_of, undelayed_of}
pub use Rattle.prl_causal.specs.code.Ways.{HasWayBack}
pub use Rattle.prl_causal.specs.declared.sources.Source.{Source}
