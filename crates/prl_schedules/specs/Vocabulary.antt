-- The words of this crate that clauses and proofs use, from one place.
pub use Rattle.prl_schedules.specs.CauseTexts.{cause_text, finding_text, job_text, left_text}
pub use Rattle.prl_schedules.specs.CauseTexts.{name_text, number_text}
pub use Rattle.prl_schedules.specs.Causes.{IsBrokenAt, IsCause, IsDueJob, IsFinding, IsFirstJob}
pub use Rattle.prl_schedules.specs.Causes.{state_at}
pub use Rattle.prl_schedules.specs.Dispatches.{IsDispatched}
pub use Rattle.prl_schedules.specs.Lefts.{IsLeft}
pub use Rattle.prl_schedules.specs.ReadTexts.{ReadsOfTasks, read_line, text_of_reads}
pub use Rattle.prl_schedules.specs.ScheduleTexts.{names_of, task_names, text_of_events}
pub use Rattle.prl_schedules.specs.Schedules.{event_of, events_from, or_line, schedule_of}
pub use Rattle.prl_schedules.specs.Schedules.{task_from, task_no, task_of, without_return}
pub use Rattle.prl_schedules.specs.code.Dates.{IsEarly, IsLastDeadline, IsLate, IsLatest, IsLeast}
pub use Rattle.prl_schedules.specs.code.Dates.{IsLeastBelow, IsNext, IsPending, IsPendingJob, own_date}
pub use Rattle.prl_schedules.specs.code.Numbers.{AreNumbers, number_in}
pub use Rattle.prl_schedules.specs.code.Walks.{AreForbidden, IsCauseThere, IsForbidden, IsOfSize}
pub use Rattle.prl_schedules.specs.code.Walks.{IsReached, IsWalk, Shows, Steps, any_run, state_after}
pub use Rattle.prl_schedules.specs.declared.causes.Cause.{Cause}
pub use Rattle.prl_schedules.specs.declared.causes.DatedJob.{DatedJob}
pub use Rattle.prl_schedules.specs.declared.dates.Next.{Next}
pub use Rattle.prl_schedules.specs.declared.schedules.ScheduleFault.{ScheduleFault}
pub use Rattle.prl_schedules.specs.declared.walks.Walk.{Walk}
