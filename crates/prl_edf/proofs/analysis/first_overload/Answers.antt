use Rattle.std.proofs.Common.{arith}
use Rattle.prl_edf.proofs.Misses.{missed_job, due_by_end, few_ticks, some_over, small_demand, told}
use Rattle.prl_edf.proofs.analysis.first_overload.Goals as goal

pub deadline-to-requires-clause-task : goal.deadline-to-requires-clause-task
deadline-to-requires-clause-task c =
    (missed_job c.args.plan.now c.args.horizon c.plan_is_one.ensures c.requires.horizon c.plan_facts.ensures c.args.task.0 c.args.job c.requires.missed).task

pub deadline-to-requires-clause-small : goal.deadline-to-requires-clause-small
deadline-to-requires-clause-small c =
    let few = few_ticks c.args.plan.now c.args.horizon c.plan_is_one.ensures c.requires.horizon c.plan_facts.ensures c.args.task.0 c.args.job c.requires.missed in
    omega (arith, due_by_end c.args.plan.now c.args.horizon c.plan_is_one.ensures c.requires.horizon c.plan_facts.ensures c.args.task.0 c.args.job c.requires.missed, few)

pub last_overload-requires-clause-to : goal.last_overload-requires-clause-to
last_overload-requires-clause-to c =
    omega (arith, due_by_end c.args.plan.now c.args.horizon c.plan_is_one.ensures c.requires.horizon c.plan_facts.ensures c.args.task.0 c.args.job c.requires.missed, c.deadline-to.ensures.at)

pub last_overload-requires-clause-some : goal.last_overload-requires-clause-some
last_overload-requires-clause-some c =
    some_over c.args.plan.now c.args.horizon c.plan_is_one.ensures c.requires.horizon c.plan_facts.ensures c.args.task.0 c.args.job c.requires.missed
    c.deadline-to.result c.deadline-to.ensures.at

pub last_overload-requires-clause-small : goal.last_overload-requires-clause-small
last_overload-requires-clause-small c =
    small_demand c.args.plan.now c.args.horizon c.plan_is_one.ensures c.requires.horizon c.plan_facts.ensures c.args.task.0 c.args.job c.requires.missed
    c.deadline-to.result c.deadline-to.ensures.at

pub returns : goal.returns
returns c =
    told c.args.plan.now c.args.horizon c.plan_is_one.ensures c.requires.horizon c.plan_facts.ensures c.args.task.0 c.args.job c.requires.missed
    c.deadline-to.result c.deadline-to.ensures.at c.in_ok-from.from c.in_ok-from.demand c.in_ok-from.ensures
