-- Releases on several processors: a job that reads from another processor waits for the deadline of the job that it reads.
use Rattle.std.specs.Prelude.{◌≡◌, ◌<◌, ℕ, ℤ, pos, ◌+ℤ◌, ◌≤ℤ◌, List, length, slice_index}
use Rattle.prl_plan.specs.declared.graphs.TaskGraph.{TaskGraph}
use Rattle.prl_plan.specs.declared.tables.Window.{Window}
use Rattle.prl_plan.specs.Dates.{Family, encoded_release, encoded_deadline}
use Rattle.prl_plan.specs.Horizons.{Placement}
use Rattle.prl_plan.specs.Jobs.{Job, task_at}
use Rattle.prl_plan.specs.Plans.{PlanView}
use Rattle.prl_plan.specs.Precedence.{Precedes}

-- the two tasks run on one processor
abbrev pub AreTogether : List ℕ → ℕ → ℕ → Type 0
AreTogether processors i j = slice_index processors i ≡ slice_index processors j

-- No job is dated before its encoded release; nor, on the processor of a job that precedes it, before that job's date and
-- then its WCET; nor, on another one, before that job's encoded deadline.
pub record AreSpreadReleases (graph : TaskGraph) (windows : List (List Window)) (processors : List ℕ) (date : Family) : Type 0 where
  pub above : (i : ℕ) (m : ℤ) → i < length graph.tasks → encoded_release graph windows i m ≤ℤ date i m
  pub within : (before after : Job) → Precedes graph before after → AreTogether processors before.task after.task →
      (date before.task before.number +ℤ pos (task_at graph before.task).wcet) ≤ℤ date after.task after.number
  pub across : (before after : Job) → Precedes graph before after → (AreTogether processors before.task after.task → ⊥) →
      encoded_deadline graph windows before.task before.number ≤ℤ date after.task after.number

pub record AreLeastSpreadReleases (graph : TaskGraph) (windows : List (List Window)) (processors : List ℕ) (date : Family) : Type 0 where
  pub releases : AreSpreadReleases graph windows processors date
  pub least : (other : Family) → AreSpreadReleases graph windows processors other → (i : ℕ) (m : ℤ) → i < length graph.tasks → date i m ≤ℤ other i m

-- The placement is a spread of the plan: each task has its processor, and jobs are released by the least such releases.
pub record IsSpread (plan : PlanView) (placement : Placement) : Type 0 where
  pub tasks : length placement.processors ≡ length plan.graph.tasks
  pub lists : length placement.windows ≡ length plan.graph.tasks
  pub releases : AreLeastSpreadReleases plan.graph plan.windows placement.processors (encoded_release plan.graph placement.windows)
