use Rattle.prl_base.proofs.Standard.{◌∙◌, inl, sym, ap, subst, All, err_from_is_err_and}
use Rattle.prl_track.specs.Machine.{IsOfPlan}
use Rattle.prl_plan.specs.Vocabulary.{alone, constants_of, opening}
use Rattle.prl_schedules.specs.ScheduleTexts.{task_names, text_of_events}
use Rattle.prl_stages.specs.Scheduled.{IsScheduleText}
use Rattle.prl_calls.specs.Stops.{given_of}
use Rattle.prl_calls.proofs.Schedules.{legal_of_plan}
use Rattle.prl_executions.proofs.texts.scheduled_text.Goals as goal

pub schedule_text-requires : goal.schedule_text-requires
schedule_text-requires c =
    let plan = c.in_ok-plan.plan in
    let horizon = c.in_ok-plan.horizon in
    subst (All (IsOfPlan plan)) (sym c.deref.ensures.value)
    (legal_of_plan plan (alone plan) horizon (opening (constants_of plan horizon)) c.in_ok-events.events.items c.in_ok-events.ensures.legal)

pub returns-in_err-plan : goal.returns-in_err-plan
returns-in_err-plan c =
    let p = err_from_is_err_and c.from_residual.result c.from_residual.ensures.1 in
    rw (p.1, p.2) c.in_err-plan.ensures

pub returns-in_err-events : goal.returns-in_err-events
returns-in_err-events c =
    let p = err_from_is_err_and c.from_residual-in_err-events.result c.from_residual-in_err-events.ensures.1 in
    rw (p.1, p.2) (inl tt)

pub returns-in_err-schedule_text : goal.returns-in_err-schedule_text
returns-in_err-schedule_text c =
    let p = err_from_is_err_and c.from_residual-in_err-schedule_text.result c.from_residual-in_err-schedule_text.ensures.1 in
    rw (p.1, p.2) (inl tt)

pub returns : goal.returns
returns c =
    let g = given_of c.args.request.now in
    let plan = c.in_ok-plan.plan in
    let told : IsScheduleText g c.in_ok-schedule_text.field-0.items = record {
      plan = plan;
      horizon = c.in_ok-plan.horizon;
      has_horizon = c.in_ok-plan.ensures.0;
      events = c.in_ok-events.events.items;
      dispatched = c.in_ok-events.ensures.next;
      whole = record { legal = c.in_ok-events.ensures.legal; complete = c.in_ok-events.ensures.complete };
      written = c.in_ok-schedule_text.ensures ∙ ap (text_of_events (task_names plan)) c.deref.ensures.value;
    } in (told, c.in_ok-plan.ensures.1)
