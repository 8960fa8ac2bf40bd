-- Timed runs by earliest deadline first.
use Rattle.std.specs.Prelude.{◌≡◌, ◌<◌, ◌≤◌, ℕ, Option, Some, None}
use Rattle.prl_plan.specs.Runs.{RunConstants}
use Rattle.prl_edf.specs.TimedRuns.{AreUnits, IsReady, IsTimedRun}
use Rattle.prl_edf.specs.MetWindows.{MeetsAllWindows}

-- each tick goes to a ready job with the earliest deadline, and to none only where no job is ready
pub record IsEdfRun (c : RunConstants) (units : ℕ → ℕ → ℕ) (run : ℕ → Option (ℕ × ℕ)) : Type 0 where
  pub timed : IsTimedRun c units run
  pub earliest : (t i n j k : ℕ) → run t ≡ Some (i, n) → IsReady c units run t j k → c.deadline i n ≤ c.deadline j k
  pub busy : (t j k : ℕ) → t < c.end → run t ≡ None → IsReady c units run t j k → ⊥

-- the plain one: of ready jobs with one deadline, that of the lowest task goes first
pub record IsPlainRun (c : RunConstants) (units : ℕ → ℕ → ℕ) (run : ℕ → Option (ℕ × ℕ)) : Type 0 where
  pub edf : IsEdfRun c units run
  pub lowest : (t i n j k : ℕ) → run t ≡ Some (i, n) → IsReady c units run t j k → c.deadline i n ≡ c.deadline j k → i ≤ j

-- a run by earliest deadline first that meets all windows, in which no job has more units than it costs
pub record IsMetRun (c : RunConstants) (cost : ℕ → ℕ → ℕ) (run : ℕ → Option (ℕ × ℕ)) : Type 0 where
  pub units : ℕ → ℕ → ℕ
  pub are : AreUnits c cost units
  pub edf : IsEdfRun c units run
  pub met : MeetsAllWindows c units run
