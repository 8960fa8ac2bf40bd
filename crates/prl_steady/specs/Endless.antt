-- The run by earliest deadline first over all jobs of a plan, for ever.
use Rattle.std.specs.Prelude.{◌≡◌, ◌+◌, ◌*◌, ◌<◌, ◌≤◌, ℕ, Option, Some, None, length}
use Rattle.prl_plan.specs.Jobs.{task_at}
use Rattle.prl_plan.specs.Plans.{PlanView, release_at, deadline_at}
use Rattle.prl_edf.specs.TimedRuns.{units_before}

-- at t job n of task i is released and has units left of its WCET; each task has a job of each number
pub record IsOpen (plan : PlanView) (run : ℕ → Option (ℕ × ℕ)) (t i n : ℕ) : Type 0 where
  pub task : i < length plan.graph.tasks
  pub released : release_at plan i n ≤ t
  pub left : units_before run t i n < (task_at plan.graph i).wcet

-- each tick goes to an open job with the earliest deadline, of several to that of the lowest task, and to none only where no job is open
pub record IsEndlessRun (plan : PlanView) (run : ℕ → Option (ℕ × ℕ)) : Type 0 where
  pub ready : (t i n : ℕ) → run t ≡ Some (i, n) → IsOpen plan run t i n
  pub earliest : (t i n j k : ℕ) → run t ≡ Some (i, n) → IsOpen plan run t j k → deadline_at plan i n ≤ deadline_at plan j k
  pub lowest : (t i n j k : ℕ) → run t ≡ Some (i, n) → IsOpen plan run t j k → deadline_at plan i n ≡ deadline_at plan j k → i ≤ j
  pub busy : (t j k : ℕ) → run t ≡ None → IsOpen plan run t j k → ⊥
