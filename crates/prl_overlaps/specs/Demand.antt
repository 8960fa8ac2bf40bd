-- What the jobs of a horizon ask of one processor.
use Rattle.std.specs.Prelude.{◌≡◌, ◌+◌, ◌-◌, ◌<◌, ◌≤◌, ◌&&◌, ℕ, Bool, nat_le, if◌then◌else◌}
use Rattle.prl_plan.specs.Facts.{IsJob}
use Rattle.prl_plan.specs.Horizons.{sum_below}
use Rattle.prl_plan.specs.Jobs.{task_at}
use Rattle.prl_plan.specs.Plans.{PlanView}
use Rattle.prl_plan.specs.Runs.{RunConstants}

-- what a job of the plan costs
abbrev pub wcets_of : PlanView → ℕ → ℕ → ℕ
wcets_of plan i n = (task_at plan.graph i).wcet

-- the sum of f over the horizon jobs
abbrev pub sum_of_jobs : RunConstants → (ℕ → ℕ → ℕ) → ℕ
sum_of_jobs c f = sum_below (λ i. sum_below (f i) (c.jobs i)) c.tasks

-- job n of task i is released and due within [a, b)
abbrev pub is_within : RunConstants → ℕ → ℕ → ℕ → ℕ → Bool
is_within c a b i n = nat_le a (c.release i n) && nat_le (c.deadline i n) b

-- the cost of a job that is released and due within [a, b); 0 of another one
abbrev pub cost_within : RunConstants → (ℕ → ℕ → ℕ) → ℕ → ℕ → ℕ → ℕ → ℕ
cost_within c cost a b i n = if is_within c a b i n then cost i n else 0

-- the demand of [a, b): what its jobs cost together
abbrev pub demand : RunConstants → (ℕ → ℕ → ℕ) → ℕ → ℕ → ℕ
demand c cost a b = sum_of_jobs c (cost_within c cost a b)

-- more is asked of the interval than it has
abbrev pub IsOverloaded : RunConstants → (ℕ → ℕ → ℕ) → ℕ → ℕ → Type 0
IsOverloaded c cost a b = b - a < demand c cost a b

-- the overloaded interval that is told: the one with the least end, and of these the one with the greatest beginning at which a horizon job is
-- released
pub record IsFirstOverload (c : RunConstants) (cost : ℕ → ℕ → ℕ) (from to : ℕ) : Type 0 where
  pub overloaded : IsOverloaded c cost from to
  pub least_end : (a b : ℕ) → IsOverloaded c cost a b → to ≤ b
  pub begins : (i : ℕ) × (n : ℕ) × IsJob c i n × (from ≡ c.release i n)
  pub greatest : (i n : ℕ) → IsJob c i n → IsOverloaded c cost (c.release i n) to → c.release i n ≤ from

-- of the intervals that end at b, the one from a on has this demand and is overloaded, and none that begins later is
pub record IsGreatest (c : RunConstants) (cost : ℕ → ℕ → ℕ) (b a asked : ℕ) : Type 0 where
  pub asked_is : asked ≡ demand c cost a b
  pub over : b < a + asked
  pub before : a ≤ b
  pub greatest : (x : ℕ) → a < x → x ≤ b → x + demand c cost x b ≤ b
