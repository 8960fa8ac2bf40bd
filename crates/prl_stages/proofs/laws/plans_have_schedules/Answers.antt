use Rattle.std.proofs.Common.{refl}
use Rattle.prl_plan.specs.Vocabulary.{constants_of, opening}
use Rattle.prl_schedules.specs.ScheduleTexts.{task_names, text_of_events}
use Rattle.prl_stages.proofs.laws.plans_have_schedules.Goals as goal

pub returns : goal.returns
returns c = λ g plan horizon has.
    let is_plan = has.has_plan.is_plan in
    let constants = constants_of plan horizon in
    let some = c.plans_are_dispatched.ensures.some plan horizon is_plan has.is_horizon in (
      text_of_events (task_names plan) some.0,
      record {
        plan = plan;
        horizon = horizon;
        has_horizon = has;
        events = some.0;
        dispatched = some.1;
        whole = record {
          legal = c.plans_are_dispatched.ensures.legal constants (c.plans_keep_facts.ensures plan horizon is_plan has.is_horizon) (opening constants) some.0 some.1;
          complete = c.plans_are_dispatched.ensures.complete constants (opening constants) some.0 some.1;
        };
        written = refl;
      },
    )
