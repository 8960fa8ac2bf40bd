-- An overloaded interval that is told, and the jobs that have to run in it.
use Rattle.std.specs.Prelude.{◌≡◌, ◌-◌, ◌<◌, ℕ, List, length, slice_index, if◌then◌else◌}
use Rattle.prl_plan.specs.declared.horizons.Horizon.{Horizon}
use Rattle.prl_plan.specs.Horizons.{IsHorizon, constants_of, sum_below}
use Rattle.prl_plan.specs.Plans.{PlanView}
use Rattle.prl_plan.specs.Runs.{RunConstants}
use Rattle.prl_overlaps.specs.Demand.{cost_within, demand, is_within, wcets_of}
use Rattle.prl_overloads.specs.Shares.{cost_of_all}

-- 1 for a job that is released and due within [a, b); 0 for another one
abbrev pub one_within : RunConstants → ℕ → ℕ → ℕ → ℕ → ℕ
one_within c a b i n = if is_within c a b i n then 1 else 0

-- how many jobs of task i are released and due within [a, b)
abbrev pub jobs_within : RunConstants → ℕ → ℕ → ℕ → ℕ
jobs_within c a b i = sum_below (one_within c a b i) (c.jobs i)

-- what the jobs of task i ask of [a, b)
abbrev pub asked_by : PlanView → Horizon → ℕ → ℕ → ℕ → ℕ
asked_by plan horizon a b i = sum_below (cost_within (constants_of plan horizon) (wcets_of plan) a b i) ((constants_of plan horizon).jobs i)

-- by task, how many of its jobs are
pub record AreWithin (c : RunConstants) (a b : ℕ) (counts : List ℕ) : Type 0 where
  pub tasks : length counts ≡ c.tasks
  pub each : (i : ℕ) → i < c.tasks → slice_index counts i ≡ jobs_within c a b i

-- The jobs of a horizon of the plan that are released and due within [a, b), by task: they cost what is told, which is the demand,
-- and more than the interval has.
pub record IsOverload (plan : PlanView) (a b asked : ℕ) (counts : List ℕ) : Type 0 where
  pub horizon : Horizon
  pub is_horizon : IsHorizon plan horizon
  pub within : AreWithin (constants_of plan horizon) a b counts
  pub cost : cost_of_all plan.graph counts ≡ asked
  pub demand_is : demand (constants_of plan horizon) (wcets_of plan) a b ≡ asked
  pub over : b - a < asked
