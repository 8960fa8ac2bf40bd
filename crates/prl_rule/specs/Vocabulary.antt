-- The words of this crate that clauses and proofs use, from one place.
pub use Rattle.prl_rule.specs.Agreement.{AgreesClock, AgreesHalf, AgreesStanding, AgreesTask}
pub use Rattle.prl_rule.specs.Agreement.{AgreesValues, AgreesView, IsOverrun, IsStop, IsToldStop}
pub use Rattle.prl_rule.specs.Agreement.{Shows, Witness, done_word, now_word, slot_word, steps_at}
pub use Rattle.prl_rule.specs.Agreement.{stop_word, word_count}
pub use Rattle.prl_rule.specs.Halves.{AreHalves, bits_of, high_half, low_half, tagged}
pub use Rattle.prl_rule.specs.Halves.{value_of_halves}
pub use Rattle.prl_rule.specs.Known.{edge_in, instance_on, job_values_of, known, registers_of}
pub use Rattle.prl_rule.specs.Known.{run_in, run_of, run_with}
unfoldable pub use Rattle.prl_rule.specs.Known.{values_of}
pub use Rattle.prl_rule.specs.PlanLaws.{PlanLaws}
pub use Rattle.prl_rule.specs.Rule.{Agreed, AgreesWith, HasPart, StandsAt, all_parts, first_part}
pub use Rattle.prl_rule.specs.Rule.{first_parts, first_view, first_witness, reached}
pub use Rattle.prl_rule.specs.RunValues.{HasValueFacts, RunValues, half_of, half_with}
pub use Rattle.prl_rule.specs.RunValues.{outputs_before, word_of}
pub use Rattle.prl_rule.specs.Steps.{AreConstants, HasRead, acts, bare, caught_up}
pub use Rattle.prl_rule.specs.Steps.{clock_stop_loaded, done_counted, first_of, given_to}
pub use Rattle.prl_rule.specs.Steps.{half_loaded, half_missed, half_stored, half_taken, joined}
pub use Rattle.prl_rule.specs.Steps.{looked, merged, moved_on, moved_owner, now_loaded, only_part}
pub use Rattle.prl_rule.specs.Steps.{part_raised, raised_by, spent, stand_moved, stop_loaded, taken}
pub use Rattle.prl_rule.specs.Steps.{taken_in, ticked, values_run, values_with, with_clock}
pub use Rattle.prl_rule.specs.Steps.{with_part, without_part}
pub use Rattle.prl_rule.specs.Told.{ClockStopTold, EndTold, HalfTold, IsAt, IsReadBy, IsStopFor}
pub use Rattle.prl_rule.specs.Told.{LeftIsRead, LookTold, NowTold, RaiseTold, StopTold, TickTold}
pub use Rattle.prl_rule.specs.Told.{WriteTold, part_at, part_of, part_or}
pub use Rattle.prl_rule.specs.declared.views.ClockPart.{ClockPart}
pub use Rattle.prl_rule.specs.declared.views.Constants.{Constants}
pub use Rattle.prl_rule.specs.declared.views.HeldValues.{HeldValues}
pub use Rattle.prl_rule.specs.declared.views.KeptHalf.{KeptHalf}
pub use Rattle.prl_rule.specs.declared.views.Standing.{Standing}
pub use Rattle.prl_rule.specs.declared.views.TaskPart.{TaskPart}
pub use Rattle.prl_rule.specs.declared.views.View.{View}
