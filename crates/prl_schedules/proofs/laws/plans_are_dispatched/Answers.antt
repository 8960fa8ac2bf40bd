use Rattle.std.proofs.Common.{◌+◌, arith}
use Rattle.prl_plan.specs.Vocabulary.{HasPlanFacts, constants_of, opening}
use Rattle.prl_plan.proofs.StateLaws.{opening_is_sound}
use Rattle.prl_track.specs.Lefts.{left_in}
use Rattle.prl_schedules.proofs.Dispatching.{some_dispatch, dispatched_is_legal, dispatched_is_complete}
use Rattle.prl_schedules.proofs.laws.plans_are_dispatched.Goals as goal

pub returns-clause-some : goal.returns-clause-some
returns-clause-some c = λ plan horizon is of.
    (let facts : HasPlanFacts (constants_of plan horizon) = c.plans_keep_facts.ensures plan horizon is of in
    some_dispatch (constants_of plan horizon) facts (c.events_are_decided.ensures.complete (constants_of plan horizon))
    (left_in (constants_of plan horizon) (opening (constants_of plan horizon)) + 1) (opening (constants_of plan horizon)) (opening_is_sound (constants_of plan horizon) facts) (omega arith))

pub returns-clause-legal : goal.returns-clause-legal
returns-clause-legal _ = dispatched_is_legal

pub returns-clause-complete : goal.returns-clause-complete
returns-clause-complete _ = dispatched_is_complete
