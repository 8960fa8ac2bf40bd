use Rattle.prl_base.proofs.Standard.{◌∙◌, sym, subst, All}
use Rattle.prl_plan.specs.Vocabulary.{alone, constants_of, opening}
use Rattle.prl_track.specs.Machine.{IsOfPlan}
use Rattle.prl_calls.specs.Stops.{given_of}
use Rattle.prl_executions.proofs.Preparing.{horizon_there}
use Rattle.prl_calls.proofs.Schedules.{legal_of_plan}
use Rattle.prl_executions.proofs.Summaries.{illegal_apart, no_fault, unfinished_apart}
use Rattle.prl_executions.proofs.generated.replayed.Goals as goal

pub plan_facts-requires : goal.plan_facts-requires
plan_facts-requires c = horizon_there (given_of c.args.request.now) c.args.ready.now c.requires

pub dispatch-requires : goal.dispatch-requires
dispatch-requires c = horizon_there (given_of c.args.request.now) c.args.ready.now c.requires

pub run_list-requires-clause-horizon : goal.run_list-requires-clause-horizon
run_list-requires-clause-horizon c = horizon_there (given_of c.args.request.now) c.args.ready.now c.requires

pub run_list-requires-clause-events : goal.run_list-requires-clause-events
run_list-requires-clause-events c =
    let r = c.args.ready.now in
    subst (All (IsOfPlan r.plan)) (sym c.deref.ensures.value)
    (legal_of_plan r.plan (alone r.plan) r.horizon (opening (constants_of r.plan r.horizon)) c.in_ok-events.events.items c.in_ok-events.ensures.legal)

pub unreachable-requires-in-Err-Illegal : goal.unreachable-requires-in-Err-Illegal
unreachable-requires-in-Err-Illegal c =
    no_fault c.replays_end_one_way.ensures.whole c.args.ready.now c.alone.result c.in_ok-events.events.items c.deref.result.now c.in-Err-Illegal.field-0 c.alone.ensures
    c.deref.ensures.value c.in_ok-events.ensures.legal c.in_ok-events.ensures.complete c.in-Err-Illegal.ensures.run
    (λ m. illegal_apart c.in-Err-Illegal.field-0-0 c.in-Err-Illegal.field-0-1 (sym c.in-Err-Illegal.field-0-is ∙ m))

pub unreachable-requires-in-Err-Unfinished : goal.unreachable-requires-in-Err-Unfinished
unreachable-requires-in-Err-Unfinished c =
    no_fault c.replays_end_one_way.ensures.whole c.args.ready.now c.alone.result c.in_ok-events.events.items c.deref.result.now c.in-Err-Unfinished.field-0 c.alone.ensures
    c.deref.ensures.value c.in_ok-events.ensures.legal c.in_ok-events.ensures.complete c.in-Err-Unfinished.ensures.run
    (λ m. unfinished_apart c.in-Err-Unfinished.field-0-0 c.in-Err-Unfinished.field-0-1 (sym c.in-Err-Unfinished.field-0-is ∙ m))
