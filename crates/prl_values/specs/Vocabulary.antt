-- The words of this crate that clauses and proofs use, from one place.
pub use Rattle.prl_values.specs.BodyRuns.{place_of_run}
pub use Rattle.prl_values.specs.Fitting.{FitsTask, HasOutput, HaveTaskBodies, HaveTypedRows}
pub use Rattle.prl_values.specs.Fitting.{IsTypedFrom, port_types}
pub use Rattle.prl_values.specs.JobValues.{AreJobValues, JobValues, at_most_one, body_of_task}
pub use Rattle.prl_values.specs.JobValues.{gives, job_values, read_on, reads_of_job, reads_over}
pub use Rattle.prl_values.specs.JobValues.{step_outputs, value_from, value_on, word_of}
pub use Rattle.prl_values.specs.Workers.{CanRun, HasBegun, HasEnded, HasGiven, HasKept, HasLaws}
pub use Rattle.prl_values.specs.Workers.{HasRun, HasTaken, HaveWorkLaws}
pub use Rattle.prl_values.specs.Workers.{IsNewWork, IsNewWorker, IsReady, IsWork, IsWorker, RunsTo}
pub use Rattle.prl_values.specs.Workers.{StepsTo, once, outs_of, outs_with}
pub use Rattle.prl_values.specs.declared.workers.Work.{Work}
pub use Rattle.prl_values.specs.declared.workers.Worker.{Worker}
