-- What of a plan is drawn: the ticks, and the tasks that have a row.
use Rattle.std.specs.Prelude.{◌<◌, ◌≤◌, ◌==◌, ◌^◌, ℕ, List, length, slice_index}
use Rattle.std.specs.List.{position_or_len}
use Rattle.prl_plan.specs.declared.limits.TheConstants.{MAX_TASKS}
use Rattle.prl_plan.specs.Plans.{PlanView}
use Rattle.prl_shapes.specs.declared.views.View.{View}

-- rows are of tasks of the plan, few enough to be numbered
pub record AreTasks (plan : PlanView) (rows : List ℕ) : Type 0 where
  pub tasks : (r : ℕ) → r < length rows → slice_index rows r < length plan.graph.tasks
  pub few : length rows ≤ MAX_TASKS

-- the numbers of a view fit
pub record IsView (plan : PlanView) (view : View) : Type 0 where
  pub early : view.scale.from < 2 ^ 32
  pub until : view.scale.until < 2 ^ 32
  pub order : view.scale.from ≤ view.scale.until
  pub some : 0 < view.scale.span
  pub span : view.scale.span < 2 ^ 33
  pub rows : AreTasks plan view.rows

-- the row of a task; behind the last where it has none
abbrev pub row_in : List ℕ → ℕ → ℕ
row_in rows task = position_or_len (λ other. other == task) rows
