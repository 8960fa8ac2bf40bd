-- The definitions that the contracts of these calls name, from one place.
pub use Rattle.prl_board.specs.Vocabulary.{AreSeatsOf, ClosedView, IsClosed, IsClockOf, IsLoneOf}
pub use Rattle.prl_calls.specs.Stops.{Passes, given_of}
pub use Rattle.prl_edf.specs.Verdicts.{IsVerdict}
pub use Rattle.prl_exec.specs.Runs.{HasEnded, HasStopped, IsRunFault}
pub use Rattle.prl_executions.specs.Ready.{IsReady}
pub use Rattle.prl_forever.specs.Forever.{Serves, ServesForEver, load_of}
pub use Rattle.prl_overlaps.specs.Demand.{IsOverloaded, wcets_of}
pub use Rattle.prl_plan.specs.Horizons.{IsHorizon, constants_of}
pub use Rattle.prl_plan.specs.Jobs.{task_at}
pub use Rattle.prl_plan.specs.Plans.{IsPlan, PlanView}
pub use Rattle.prl_rule.specs.Known.{known, run_of}
pub use Rattle.prl_rule.specs.declared.views.ClockPart.{ClockPart}
pub use Rattle.prl_rule.specs.declared.views.Constants.{Constants}
pub use Rattle.prl_seats.specs.JobSeats.{IsSeatOf, JobSeatView}
pub use Rattle.prl_tables.specs.Tables.{IsGood}
pub use Rattle.prl_values.specs.Fitting.{HaveTaskBodies, HaveTypedRows}
