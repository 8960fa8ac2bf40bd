-- The part that each task has in what is asked of the processor.
use Rattle.std.specs.Prelude.{◌≡◌, ◌+◌, ◌*◌, ℕ}
use Rattle.prl_plan.specs.declared.horizons.Horizon.{Horizon}
use Rattle.prl_plan.specs.Horizons.{constants_of, sum_below}
use Rattle.prl_plan.specs.Jobs.{job_count, task_at}
use Rattle.prl_plan.specs.Plans.{PlanView}
use Rattle.prl_overlaps.specs.Demand.{cost_within, wcets_of}
use Rattle.prl_tables.specs.Tables.{classes}
use Rattle.prl_table.specs.Made.{greatest_start}
use Rattle.prl_steady.specs.declared.shares.Share.{Share}

-- the jobs of the horizon by which an overload for ever is told: those before two hyperperiods after all tasks have started
abbrev pub told_until : PlanView → ℕ
told_until plan = greatest_start plan.graph.tasks + 2 * plan.graph.hyper

abbrev pub horizon_to : ℕ → Horizon
horizon_to until = record { until = until; end = 0; jobs = 0; events = 0 }

-- the sum over the jobs of task i before `until` that are released and due within [a, b)
abbrev pub sum_within : PlanView → (ℕ → ℕ → ℕ) → ℕ → ℕ → ℕ → ℕ → ℕ
sum_within plan cost until a b i = sum_below (cost_within (constants_of plan (horizon_to until)) cost a b i) (job_count (task_at plan.graph i) until)

-- how many jobs of task i have to run within [a, b), and how many ticks they cost together
pub record IsShareWithin (plan : PlanView) (a b i : ℕ) (share : Share) : Type 0 where
  pub jobs : share.jobs ≡ sum_within plan (λ i n. 1) (told_until plan) a b i
  pub units : share.units ≡ sum_within plan (wcets_of plan) (told_until plan) a b i

-- how many jobs task i has in a hyperperiod, and how many ticks they cost together
pub record IsShareOfHyper (plan : PlanView) (i : ℕ) (share : Share) : Type 0 where
  pub jobs : share.jobs ≡ classes plan.graph i
  pub units : share.units ≡ classes plan.graph i * (task_at plan.graph i).wcet
