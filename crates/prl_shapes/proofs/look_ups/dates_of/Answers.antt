use Rattle.std.proofs.Common.{arith}
use Rattle.prl_shapes.proofs.Fits.{dates_fit}
use Rattle.prl_shapes.proofs.look_ups.dates_of.Goals as goal

pub release-requires-clause-small : goal.release-requires-clause-small
release-requires-clause-small c =
    let fit = dates_fit c.args.plan.now c.args.i.0 c.args.n c.args.until c.requires.task c.task_of-task.ensures.fits
    c.requires.until c.requires.job c.horizon_jobs_are_counted.ensures c.look_ups_fit.ensures.horizon c.plan_is_one.ensures in
    omega (arith, fit.0)

pub deadline-requires-clause-small : goal.deadline-requires-clause-small
deadline-requires-clause-small c =
    let fit = dates_fit c.args.plan.now c.args.i.0 c.args.n c.args.until c.requires.task c.task_of-task.ensures.fits
    c.requires.until c.requires.job c.horizon_jobs_are_counted.ensures c.look_ups_fit.ensures.horizon c.plan_is_one.ensures in
    omega (arith, fit.1)

pub returns-clause-early : goal.returns-clause-early
returns-clause-early c =
    let fit = dates_fit c.args.plan.now c.args.i.0 c.args.n c.args.until c.requires.task c.task_of-task.ensures.fits
    c.requires.until c.requires.job c.horizon_jobs_are_counted.ensures c.look_ups_fit.ensures.horizon c.plan_is_one.ensures in
    omega (arith, fit.0, c.release.ensures.at)

pub returns-clause-due : goal.returns-clause-due
returns-clause-due c =
    let fit = dates_fit c.args.plan.now c.args.i.0 c.args.n c.args.until c.requires.task c.task_of-task.ensures.fits
    c.requires.until c.requires.job c.horizon_jobs_are_counted.ensures c.look_ups_fit.ensures.horizon c.plan_is_one.ensures in
    omega (arith, fit.1, c.deadline.ensures.at)
