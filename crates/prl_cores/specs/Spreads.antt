-- A plan spread over processors.
use Rattle.std.specs.Prelude.{◌≡◌, ◌+◌, ◌*◌, ◌<◌, ℕ, ℤ, pos, ◌+ℤ◌, ◌≤ℤ◌, List, length, map, slice_index_or}
use Rattle.prl_base.specs.declared.operators.Clock.{Clock}
use Rattle.prl_plan.specs.declared.graphs.Edge.{Edge}
use Rattle.prl_plan.specs.declared.graphs.Task.{Task}
use Rattle.prl_plan.specs.declared.tables.Used.{Used}
use Rattle.prl_plan.specs.Cells.{Fits}
use Rattle.prl_plan.specs.Dates.{encoded_release, encoded_deadline, window_at}
use Rattle.prl_plan.specs.Horizons.{Placement}
use Rattle.prl_plan.specs.Jobs.{Job, task_at}
use Rattle.prl_plan.specs.Plans.{PlanView}
use Rattle.prl_plan.specs.Precedence.{Precedes}
use Rattle.prl_plan.specs.Spread.{AreTogether, IsSpread}

-- what is seen of a spread: where the tasks run and by which windows their jobs are released, and the tasks' clocks
pub record SpreadView : Type 0 where
  pub placement : Placement
  pub clocks : List Clock

-- it is one of the plan
pub record IsSpreadOf (plan : PlanView) (spread : SpreadView) : Type 0 where
  pub is : IsSpread plan spread.placement
  pub clocks : spread.clocks ≡ map (λ (task : Task). task.clock) plan.graph.tasks

-- stands where there is no task
abbrev pub no_clock : Clock
no_clock = record { period = 1; start = 0 }

-- when job n of task i is released, in ticks
abbrev pub spread_release : SpreadView → ℕ → ℕ → ℕ
spread_release spread i n =
    let clock = slice_index_or spread.clocks i no_clock in clock.start + n * clock.period + (window_at spread.placement.windows i (pos n)).lead

-- Each job has room for its WCET between its release and its deadline, along an edge from another processor windows do not overlap,
-- and the cells of the plan still fit.
pub record LeavesRoom (plan : PlanView) (placement : Placement) : Type 0 where
  pub room : (i : ℕ) (m : ℤ) → i < length plan.graph.tasks →
      (encoded_release plan.graph placement.windows i m +ℤ pos (task_at plan.graph i).wcet) ≤ℤ encoded_deadline plan.graph plan.windows i m
  pub apart : (before after : Job) → Precedes plan.graph before after → (AreTogether placement.processors before.task after.task → ⊥) →
      encoded_deadline plan.graph plan.windows before.task before.number ≤ℤ encoded_release plan.graph placement.windows after.task after.number
  pub fits : (edge : Edge) (i : ℕ) → i < length plan.graph.tasks → (used : Used) (cells : ℕ) →
      Fits edge i (encoded_release plan.graph plan.windows) (encoded_deadline plan.graph plan.windows) used cells →
      Fits edge i (encoded_release plan.graph placement.windows) (encoded_deadline plan.graph plan.windows) used cells
