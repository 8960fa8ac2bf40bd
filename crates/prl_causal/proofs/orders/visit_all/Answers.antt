use Rattle.std.proofs.Common.{arith}
use Rattle.prl_causal.proofs.Sorting.{ended}
use Rattle.prl_causal.proofs.orders.visit_all.Goals as goal

pub returns-clause-whole : goal.returns-clause-whole
returns-clause-whole c = λ _.
    ended c.args.flat.now c.args.sources.now c.loop-from.order.items c.loop-from.placed c.loop-from.opened c.loop-from.seen c.loop-from.invariant.sorted
    (λ i low. c.loop-from.invariant.every i (omega (arith, low, c.loop-from-test.false, c.loop-from.auto.from-end)))
