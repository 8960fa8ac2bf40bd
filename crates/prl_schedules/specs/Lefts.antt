-- What a job has left to do after some events.
use Rattle.std.specs.Prelude.{◌≡◌, ◌≢◌, ◌+◌, ◌<◌, ℕ, List, slice_index, slice_index_or}
use Rattle.prl_plan.specs.declared.events.Action.{Action}
use Rattle.prl_plan.specs.declared.events.Action.TheVariants as actions
use Rattle.prl_plan.specs.declared.events.Event.{Event}
use Rattle.prl_plan.specs.Plans.{PlanView, actions_of}
use Rattle.prl_plan.specs.Runs.{ExecState}
use Rattle.prl_schedules.specs.code.Walks.{state_after}
use Rattle.prl_schedules.specs.declared.lefts.Left.{Left}

-- the action at a place of the job
abbrev pub action_of : PlanView → Left → ℕ → Action
action_of plan left place = slice_index_or (actions_of plan left.task.0 left.number) place actions.End

-- After the events this is the first job of its task that has not ended, it has done so many actions, and so many are before the
-- one that ends it.
pub record IsLeft (plan : PlanView) (list : List Event) (left : Left) : Type 0 where
  pub number : left.number ≡ slice_index (state_after plan list).ended left.task.0
  pub done : left.done ≡ slice_index (state_after plan list).places left.task.0
  pub ends : action_of plan left (left.done + left.more) ≡ actions.End
  pub before : (k : ℕ) → k < left.more → action_of plan left (left.done + k) ≢ actions.End
