-- What the plain run with some units comes to.
use Rattle.std.specs.Prelude.{ℕ, Option}
use Rattle.prl_plan.specs.Runs.{RunConstants}
use Rattle.prl_edf.specs.declared.runs.Outcome.{Outcome}
use Rattle.prl_edf.specs.declared.runs.Outcome.TheVariants as outcomes
use Rattle.prl_edf.specs.declared.runs.Timed.{Timed}
use Rattle.prl_edf.specs.EdfRuns.{IsPlainRun}
use Rattle.prl_edf.specs.MetWindows.{IsFirstMiss, MeetsAllWindows}
use Rattle.prl_edf.specs.Pieces.{run_of, AreLongest}

-- the plain run, in pieces that are as long as possible, where it meets all windows
pub record IsFeasibleRun (c : RunConstants) (units : ℕ → ℕ → ℕ) (timed : Timed) : Type 0 where
  pub longest : AreLongest timed.pieces
  pub plain : IsPlainRun c units (run_of timed.pieces)
  pub met : MeetsAllWindows c units (run_of timed.pieces)

-- that run; or the first job whose window the plain run misses
abbrev pub ComesTo : RunConstants → (ℕ → ℕ → ℕ) → Outcome → Type 0
ComesTo c units (outcomes.Met timed) = IsFeasibleRun c units timed
ComesTo c units (outcomes.Missed task job) = (run : ℕ → Option (ℕ × ℕ)) → IsPlainRun c units run → IsFirstMiss c units run task.0 job
