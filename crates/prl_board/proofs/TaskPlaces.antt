-- What the place of a task says of its stage.
use Rattle.std.proofs.Common.{◌≡◌, refl}
use Rattle.prl_plan.specs.declared.events.Action.{Action}
use Rattle.prl_plan.specs.declared.events.Action.TheVariants as actions
use Rattle.prl_seats.specs.JobSeats.{IsShut}
use Rattle.prl_seats.specs.declared.jobs.Stage.{Stage}
use Rattle.prl_seats.specs.declared.jobs.Stage.TheVariants as stages
use Rattle.prl_board.specs.TaskSeats.{MayFinish, MayRelease, place_at, place_of}

no_release : (action : Action) → MayRelease (place_at action) → ⊥
no_release (actions.ReadConst port value) may = may
no_release (actions.Read port e m slot) may = may
no_release (actions.Write e m slot) may = may
no_release actions.End may = may

pub released_is_shut : (stage : Stage) → MayRelease (place_of stage) → IsShut stage
released_is_shut stages.Over may = tt
released_is_shut stages.Idle may = tt
released_is_shut (stages.At action) may = no_release action may

end_there : (action : Action) → MayFinish (place_at action) → action ≡ actions.End
end_there (actions.ReadConst port value) may = absurd may
end_there (actions.Read port e m slot) may = absurd may
end_there (actions.Write e m slot) may = absurd may
end_there actions.End may = refl

pub ending_is_end : (stage : Stage) → MayFinish (place_of stage) → stage ≡ stages.At actions.End
ending_is_end stages.Over may = absurd may
ending_is_end stages.Idle may = absurd may
ending_is_end (stages.At action) may = λ h. stages.At (end_there action may h)
