-- The words of this crate that clauses and proofs use, from one place.
pub use Rattle.prl_overlaps.specs.Demand.{IsFirstOverload, IsGreatest, IsOverloaded, cost_within}
pub use Rattle.prl_overlaps.specs.Demand.{demand, is_within, sum_of_jobs, wcets_of}
pub use Rattle.prl_edf.specs.EdfRuns.{IsEdfRun, IsMetRun, IsPlainRun}
pub use Rattle.prl_edf.specs.MetWindows.{IsFirstMiss, MeetsAllWindows, MeetsWindow, MissesWindow}
pub use Rattle.prl_edf.specs.Outcomes.{ComesTo, IsFeasibleRun}
pub use Rattle.prl_edf.specs.Pieces.{AreLongest, IsFollowed, lies_in, run_of, ticks_of}
pub use Rattle.prl_edf.specs.TimedRuns.{AreUnits, IsReady, IsTimedRun, totals, unit_of}
pub use Rattle.prl_edf.specs.TimedRuns.{units_before}
pub use Rattle.prl_edf.specs.UnitLists.{units_of}
pub use Rattle.prl_edf.specs.Unrolled.{HaveOneEnd, IsLastBusy, IsUnrolled, acts_in, acts_of}
pub use Rattle.prl_edf.specs.Unrolled.{events_to}
pub use Rattle.prl_edf.specs.VerdictTexts.{verdict_line}
pub use Rattle.prl_edf.specs.Verdicts.{IsVerdict}
pub use Rattle.prl_edf.specs.code.Extended.{EndBy, Extends, IsExtended}
pub use Rattle.prl_edf.specs.code.FullLists.{AreFullLists}
pub use Rattle.prl_edf.specs.code.Going.{AreRests, IsChoice, IsDoneTask, IsFirstReady, IsFresh}
pub use Rattle.prl_edf.specs.code.Going.{IsGoing, IsMaking, IsPlainTo, IsRestAfter, IsRestOf}
pub use Rattle.prl_edf.specs.code.Going.{NoneReady, rest_of}
pub use Rattle.prl_edf.specs.code.Lasts.{IsUnrolling, before, is_other, lasts_in, next_job}
pub use Rattle.prl_edf.specs.declared.analysis.Verdict.{Verdict}
pub use Rattle.prl_edf.specs.declared.pieces.Piece.{Piece}
pub use Rattle.prl_edf.specs.declared.rests.Choice.{Choice}
pub use Rattle.prl_edf.specs.declared.rests.Ready.{Ready}
pub use Rattle.prl_edf.specs.declared.rests.Rest.{Rest}
pub use Rattle.prl_edf.specs.declared.runs.Outcome.{Outcome}
