use Rattle.prl_base.proofs.Standard.{◌≡◌, ◌≢◌, ◌+◌, ◌<◌, ℕ, slice_index_or}
use Rattle.prl_plan.specs.declared.events.Action.TheVariants as actions
use Rattle.prl_plan.specs.Plans.{actions_of}
use Rattle.prl_schedules.proofs.lefts.before_end.Given as goal

-- none of the actions that were passed ends the job
abbrev pub invariant-loop-more : goal.invariant-loop-more
invariant-loop-more l =
    (k : ℕ) → k < l.more → slice_index_or (actions_of l.plan l.task.0 l.number) (l.done + k) actions.End ≢ actions.End
