-- Timed runs on one processor: each tick goes to a job, told by its task and its number, or to none.
use Rattle.std.specs.Prelude.{◌≡◌, ◌<◌, ◌≤◌, ◌&&◌, ◌==◌, ℕ, Option, Some, None, if◌then◌else◌}
use Rattle.prl_plan.specs.Facts.{IsJob}
use Rattle.prl_plan.specs.Horizons.{sum_below}
use Rattle.prl_plan.specs.Runs.{RunConstants}

-- 1 where what a tick goes to is job n of task i, else 0
abbrev pub unit_of : Option (ℕ × ℕ) → ℕ → ℕ → ℕ
unit_of None i n = 0
unit_of (Some job) i n = if (job.0 == i) && (job.1 == n) then 1 else 0

-- how many of the ticks before t go to job n of task i
abbrev pub units_before : (ℕ → Option (ℕ × ℕ)) → ℕ → ℕ → ℕ → ℕ
units_before run t i n = sum_below (λ k. unit_of (run k) i n) t

-- by task and job, how many ticks before the end go to it
abbrev pub totals : RunConstants → (ℕ → Option (ℕ × ℕ)) → ℕ → ℕ → ℕ
totals c run = units_before run c.end

-- each horizon job has at least 1 unit, and at most its cost
abbrev pub AreUnits : RunConstants → (ℕ → ℕ → ℕ) → (ℕ → ℕ → ℕ) → Type 0
AreUnits c cost units = (i n : ℕ) → IsJob c i n → (1 ≤ units i n) × (units i n ≤ cost i n)

-- at t horizon job n of task i is released and has units left
pub record IsReady (c : RunConstants) (units : ℕ → ℕ → ℕ) (run : ℕ → Option (ℕ × ℕ)) (t i n : ℕ) : Type 0 where
  pub job : IsJob c i n
  pub released : c.release i n ≤ t
  pub left : units_before run t i n < units i n

-- each tick goes to a ready job or to none, and from the end on to none
pub record IsTimedRun (c : RunConstants) (units : ℕ → ℕ → ℕ) (run : ℕ → Option (ℕ × ℕ)) : Type 0 where
  pub ready : (t i n : ℕ) → run t ≡ Some (i, n) → IsReady c units run t i n
  pub ends : (t : ℕ) → c.end ≤ t → run t ≡ None
