use Rattle.std.proofs.Common.{◌+◌, arith}
use Rattle.prl_plan.specs.Vocabulary.{HasPlanFacts, constants_on, opening}
use Rattle.prl_plan.proofs.StateLaws.{opening_is_sound}
use Rattle.prl_track.specs.Lefts.{left_in}
use Rattle.prl_schedules.proofs.Dispatching.{some_dispatch}
use Rattle.prl_cores.proofs.laws.spread_plans_are_dispatched.Goals as goal

pub returns : goal.returns
returns c = λ plan horizon placement is of spread.
    (let facts : HasPlanFacts (constants_on plan placement horizon) = c.spread_plans_keep_facts.ensures plan horizon placement is of spread in
    let list = some_dispatch (constants_on plan placement horizon) facts (c.events_are_decided.ensures.complete (constants_on plan placement horizon))
    (left_in (constants_on plan placement horizon) (opening (constants_on plan placement horizon)) + 1) (opening (constants_on plan placement horizon))
    (opening_is_sound (constants_on plan placement horizon) facts) (omega arith) in (
      list.0,
      list.1,
      c.plans_are_dispatched.ensures.legal (constants_on plan placement horizon) facts (opening (constants_on plan placement horizon)) list.0 list.1,
      c.plans_are_dispatched.ensures.complete (constants_on plan placement horizon) (opening (constants_on plan placement horizon)) list.0 list.1,
    ))
