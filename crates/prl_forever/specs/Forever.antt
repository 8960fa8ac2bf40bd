-- Whether one processor serves a plan for ever.
use Rattle.std.specs.Prelude.{◌≡◌, ◌*◌, ◌<◌, ◌≤◌, ◌⊎◌, ℕ, length}
use Rattle.prl_plan.specs.declared.horizons.Horizon.{Horizon}
use Rattle.prl_plan.specs.Horizons.{constants_of, sum_below}
use Rattle.prl_plan.specs.Jobs.{task_at}
use Rattle.prl_plan.specs.Plans.{PlanView}
use Rattle.prl_overlaps.specs.Demand.{wcets_of, IsOverloaded}
use Rattle.prl_tables.specs.Tables.{classes}

-- how many ticks the jobs of a hyperperiod cost
abbrev pub load_of : PlanView → ℕ
load_of plan = sum_below (λ i. classes plan.graph i * (task_at plan.graph i).wcet) (length plan.graph.tasks)

-- no task starts after this tick
abbrev pub AreStartedBy : PlanView → ℕ → Type 0
AreStartedBy plan start = (i : ℕ) → i < length plan.graph.tasks → (task_at plan.graph i).clock.start ≤ start

-- this is the greatest start; 0 where there is no task
pub record IsLatestStart (plan : PlanView) (start : ℕ) : Type 0 where
  pub by : AreStartedBy plan start
  pub attained : (start ≡ 0) ⊎ ((i : ℕ) × (i < length plan.graph.tasks) × (start ≡ (task_at plan.graph i).clock.start))

-- one processor serves the jobs of the horizon: no interval is overloaded
abbrev pub Serves : PlanView → Horizon → Type 0
Serves plan horizon = (a b : ℕ) → IsOverloaded (constants_of plan horizon) (wcets_of plan) a b → ⊥

-- and those of each horizon, whatever the limits
abbrev pub ServesForEver : PlanView → Type 0
ServesForEver plan = (horizon : Horizon) → Serves plan horizon
