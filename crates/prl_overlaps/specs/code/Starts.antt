-- Demand by the tick at which its jobs are released.
use Rattle.std.specs.Prelude.{◌&&◌, ◌==◌, ℕ, nat_le, if◌then◌else◌}
use Rattle.prl_plan.specs.Runs.{RunConstants}
use Rattle.prl_overlaps.specs.Demand.{sum_of_jobs}

-- the cost of a job that is released at a and due by b; 0 of another one
abbrev pub cost_at : RunConstants → (ℕ → ℕ → ℕ) → ℕ → ℕ → ℕ → ℕ → ℕ
cost_at c cost b a i n = if (c.release i n == a) && nat_le (c.deadline i n) b then cost i n else 0

abbrev pub starts_at : RunConstants → (ℕ → ℕ → ℕ) → ℕ → ℕ → ℕ
starts_at c cost b a = sum_of_jobs c (cost_at c cost b a)
