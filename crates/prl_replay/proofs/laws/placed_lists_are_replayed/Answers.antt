use Rattle.prl_plan.specs.Horizons.{constants_on}
use Rattle.prl_plan.proofs.StateLaws.{opening_is_sound}
use Rattle.prl_core.specs.Cores.{opened_on}
use Rattle.prl_replay.proofs.Traces.{replayed}
use Rattle.prl_replay.proofs.laws.placed_lists_are_replayed.Goals as goal

pub returns : goal.returns
returns c = λ plan placement bodies rows horizon is_plan is_horizon facts have_bodies have_rows list legal complete.
    replayed (opened_on plan placement bodies rows horizon) facts
    (λ s. c.legal_events_tell.ensures.told (record (opened_on plan placement bodies rows horizon) { state = s }) is_plan is_horizon facts have_bodies have_rows)
    (λ s. c.legal_events_tell.ensures.outputs (record (opened_on plan placement bodies rows horizon) { state = s }) is_plan is_horizon facts have_bodies have_rows)
    (opening_is_sound (constants_on plan placement horizon) facts) list legal complete
