use Rattle.prl_schedules.proofs.Jobs.{have_periods}
use Rattle.prl_schedules.proofs.Told.{due_alone, due_or_over, over_none, over_past}
use Rattle.prl_schedules.proofs.findings.due.Goals as goal

pub returns-in_default : goal.returns-in_default
returns-in_default c h is s reached broken =
    over_none c.args.plan.now h is (c.plans_keep_facts.ensures c.args.plan.now h c.plan_is_one.ensures is) c.horizon_jobs_are_counted.ensures
    (have_periods c.args.plan.now c.plan_is_one.ensures) s c.args.walk.now reached c.in_default.ensures broken

pub returns-then-next-walk : goal.returns-then-next-walk
returns-then-next-walk c h is s reached broken =
    over_past c.args.plan.now h is (c.plans_keep_facts.ensures c.args.plan.now h c.plan_is_one.ensures is) c.horizon_jobs_are_counted.ensures
    (have_periods c.args.plan.now c.plan_is_one.ensures) s c.args.walk.now reached c.in-Some.next c.in-Some.ensures c.if-next-walk.true broken

pub returns-then-latest_deadline-walk : goal.returns-then-latest_deadline-walk
returns-then-latest_deadline-walk c h is s reached broken =
    due_alone c.args.plan.now h is (c.plans_keep_facts.ensures c.args.plan.now h c.plan_is_one.ensures is) c.horizon_jobs_are_counted.ensures
    (have_periods c.args.plan.now c.plan_is_one.ensures) s c.args.walk.now reached c.in-Some.next c.in-Some.ensures
    c.latest_deadline.result c.latest_deadline.ensures c.if-latest_deadline-walk.true broken

pub returns : goal.returns
returns c h is s reached broken =
    due_or_over c.args.plan.now h is (c.plans_keep_facts.ensures c.args.plan.now h c.plan_is_one.ensures is) c.horizon_jobs_are_counted.ensures
    (have_periods c.args.plan.now c.plan_is_one.ensures) s c.args.walk.now reached c.in-Some.next c.in-Some.ensures broken
