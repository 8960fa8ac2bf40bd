-- A plan of a sensor and an actuator that takes its values, and a closed board of it.
use Rattle.std.specs.Prelude.{◌≡◌, ◌≤◌, length, sum, Some}
use Rattle.prl_plan.specs.declared.graphs.Kind.TheVariants as kinds
use Rattle.prl_plan.specs.Jobs.{task_at}
use Rattle.prl_plan.specs.Plans.{PlanView}
use Rattle.prl_rule.specs.declared.views.Constants.{Constants}
use Rattle.prl_rule.specs.Known.{run_of}
use Rattle.prl_board.specs.Closings.{ClosedView, Drives}

-- the plan has two tasks or more, of which the second is the actuator of main's first output, and a cell
pub record IsPair (plan : PlanView) : Type 0 where
  pub tasks : 2 ≤ length plan.graph.tasks
  pub drives : (task_at plan.graph 1).kind ≡ kinds.Actuator 0
  pub cells : 1 ≤ sum plan.counts

-- a closed board has both tasks, a cell, and the actuator as its second task
pub record IsClosedPair (c : ClosedView) : Type 0 where
  pub tasks : 2 ≤ length c.seats
  pub known : (k : Constants) × (c.constants ≡ Some k) × (2 ≤ (run_of k).slots) × Drives k 1 0
