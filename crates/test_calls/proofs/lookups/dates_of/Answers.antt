use Rattle.std.proofs.Common.{◌^◌, arith, lit<}
use Rattle.test_calls.proofs.lookups.dates_of.Goals as goal

pub release-requires-clause-small : goal.release-requires-clause-small
release-requires-clause-small c =
    let h = c.look_ups_fit.ensures.horizon c.args.plan.now c.is_early.ensures.plan (2 ^ 31) c.args.i c.args.n (lit< tt) (c.is_early.ensures.early c.if-is_early.true) in
    let r = h.0 in
    omega (arith, r)

pub deadline-requires-clause-small : goal.deadline-requires-clause-small
deadline-requires-clause-small c =
    let h = c.look_ups_fit.ensures.horizon c.args.plan.now c.is_early.ensures.plan (2 ^ 31) c.args.i c.args.n (lit< tt) (c.is_early.ensures.early c.if-is_early.true) in
    let d = h.1 in
    omega (arith, d)
