-- The span of each job in a timed run.
use Rattle.std.specs.Prelude.{◌≡◌, ◌+◌, ◌≤◌, ℕ, Option, Some}
use Rattle.prl_plan.specs.Facts.{IsJob}
use Rattle.prl_plan.specs.Runs.{RunConstants}
use Rattle.prl_tables.specs.Unrolled.{Placing}

-- from the first tick that goes to a job to the end of the last one
pub record IsSpanIn (run : ℕ → Option (ℕ × ℕ)) (i n begin end : ℕ) : Type 0 where
  pub first : run begin ≡ Some (i, n)
  pub before : (t : ℕ) → run t ≡ Some (i, n) → begin ≤ t
  pub last : (t : ℕ) × (run t ≡ Some (i, n)) × (end ≡ t + 1)
  pub after : (t : ℕ) → run t ≡ Some (i, n) → t + 1 ≤ end

abbrev pub AreSpansIn : RunConstants → (ℕ → Option (ℕ × ℕ)) → Placing → Placing → Type 0
AreSpansIn c run begin end = (i n : ℕ) → IsJob c i n → IsSpanIn run i n (begin i n) (end i n)
