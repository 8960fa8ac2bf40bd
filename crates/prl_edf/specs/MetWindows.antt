-- Which jobs of a timed run have all their units before their deadlines.
use Rattle.std.specs.Prelude.{◌≡◌, ◌<◌, ◌≤◌, ℕ, Option}
use Rattle.prl_plan.specs.Facts.{IsJob}
use Rattle.prl_plan.specs.Runs.{RunConstants}
use Rattle.prl_edf.specs.TimedRuns.{units_before}

-- job n of task i has all its units before its deadline
abbrev pub MeetsWindow : RunConstants → (ℕ → ℕ → ℕ) → (ℕ → Option (ℕ × ℕ)) → ℕ → ℕ → Type 0
MeetsWindow c units run i n = units i n ≤ units_before run (c.deadline i n) i n

abbrev pub MeetsAllWindows : RunConstants → (ℕ → ℕ → ℕ) → (ℕ → Option (ℕ × ℕ)) → Type 0
MeetsAllWindows c units run = (i n : ℕ) → IsJob c i n → MeetsWindow c units run i n

-- it has not
abbrev pub MissesWindow : RunConstants → (ℕ → ℕ → ℕ) → (ℕ → Option (ℕ × ℕ)) → ℕ → ℕ → Type 0
MissesWindow c units run i n = units_before run (c.deadline i n) i n < units i n

-- of the jobs that miss their windows none is due earlier, and none that is due then is of a lower task
pub record IsFirstMiss (c : RunConstants) (units : ℕ → ℕ → ℕ) (run : ℕ → Option (ℕ × ℕ)) (i n : ℕ) : Type 0 where
  pub job : IsJob c i n
  pub misses : MissesWindow c units run i n
  pub earliest : (j k : ℕ) → IsJob c j k → MissesWindow c units run j k → c.deadline i n ≤ c.deadline j k
  pub lowest : (j k : ℕ) → IsJob c j k → MissesWindow c units run j k → c.deadline i n ≡ c.deadline j k → i ≤ j
