use Rattle.std.proofs.Common.{arith, refl}
use Rattle.prl_schedules.proofs.Jobs.{next_fits}
use Rattle.prl_schedules.proofs.dates.next_of.Goals as goal

pub release-requires-clause-small : goal.release-requires-clause-small
release-requires-clause-small c =
    let fit = next_fits c.args.plan.now c.plan_is_one.ensures c.look_ups_fit.ensures.horizon c.args.i.0 c.requires c.args.n c.clock_of-clock.result
    c.clock_of-clock.ensures.clock c.if-own-ge-DATES.false in
    omega (arith, fit.2)

pub deadline-requires-clause-small : goal.deadline-requires-clause-small
deadline-requires-clause-small c =
    let fit = next_fits c.args.plan.now c.plan_is_one.ensures c.look_ups_fit.ensures.horizon c.args.i.0 c.requires c.args.n c.clock_of-clock.result
    c.clock_of-clock.ensures.clock c.if-own-ge-DATES.false in
    omega (arith, fit.3)

pub returns : goal.returns
returns c =
    let fit = next_fits c.args.plan.now c.plan_is_one.ensures c.look_ups_fit.ensures.horizon c.args.i.0 c.requires c.args.n c.clock_of-clock.result
    c.clock_of-clock.ensures.clock c.if-own-ge-DATES.false in
    record {
      task = refl;
      number = refl;
      release = c.release.ensures.at;
      deadline = c.deadline.ensures.at;
      own = fit.0;
      early = fit.1;
      few = c.if-n-ge-DATES.false;
      small = fit.2;
    }
