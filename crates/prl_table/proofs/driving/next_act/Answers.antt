use Rattle.std.proofs.Common.{arith}
use Rattle.prl_table.proofs.driving.next_act.Goals as goal

pub last_unit-requires-clause-job : goal.last_unit-requires-clause-job
last_unit-requires-clause-job c =
    (c.look_ups_fit.ensures.horizon c.args.plan.now c.graph.ensures.plan c.args.horizon.until c.args.task.0 c.args.job c.requires.horizon.until
    ((c.horizon_jobs_are_counted.ensures c.args.plan.now.graph c.args.horizon.until c.args.task.0 c.args.job c.requires.task
    (c.classes_are_early.ensures.period c.args.plan.now c.graph.ensures.plan c.args.task.0 c.requires.task)).1 (let j = c.jobs_of.ensures in let f = c.if-job-jobs_of.false in omega (arith, j, f)))).2
