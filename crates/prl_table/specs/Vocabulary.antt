-- The words of this crate that clauses and proofs use, from one place.
pub use Rattle.prl_table.specs.Made.{IsCut, IsCutFrom, IsRun, IsSteadyRun, cut_from, cut_to, goes}
pub use Rattle.prl_table.specs.Made.{greatest_start, is_job, is_same, last_of, later, lengthened}
pub use Rattle.prl_table.specs.Made.{longer, run_until, unit_at, units_in, with_tick}
pub use Rattle.prl_table.specs.MakeFaults.{IsFirstUnsteady, IsLongRun, IsMade, IsMakeFault}
pub use Rattle.prl_table.specs.MakeFaults.{IsUnsteadyAt, job_in}
pub use Rattle.prl_table.specs.code.Ticks.{AreOfPlan, HasTicks, HaveAtMost}
pub use Rattle.prl_table.specs.declared.making.MakeFault.{MakeFault}
