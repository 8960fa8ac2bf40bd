use Rattle.prl_base.proofs.Standard.{◌≡◌, ◌+◌, ◌-◌, ℕ, [], slice_index_or, arith}
use Rattle.prl_ages.proofs.Reaching.{not_later}
use Rattle.prl_ages.proofs.skews.skew_at.Goals as goal

pub released-requires-clause-small : goal.released-requires-clause-small
released-requires-clause-small c =
    let some : slice_index_or c.args.counts.now c.args.s.0 0 ≡ slice_index_or c.args.counts.now c.args.s.0 0 - 1 + 1 = omega (arith, c.if-one-eq0.false) in
    let early = not_later c.args.plan.now.graph [] c.graph-graph.ensures.plan.graph c.args.s.0 (slice_index_or c.args.counts.now c.args.s.0 0 - 1) c.args.a.0 c.args.k
    (c.requires.needed.reached c.args.s.0 (slice_index_or c.args.counts.now c.args.s.0 0 - 1) some) in
    omega (arith, early, c.requires.small)

pub released-requires-2-clause-small : goal.released-requires-2-clause-small
released-requires-2-clause-small c =
    let some : slice_index_or c.args.counts.now c.args.r.0 0 ≡ slice_index_or c.args.counts.now c.args.r.0 0 - 1 + 1 = omega (arith, c.if-other-eq0.false) in
    let early = not_later c.args.plan.now.graph [] c.graph-graph.ensures.plan.graph c.args.r.0 (slice_index_or c.args.counts.now c.args.r.0 0 - 1) c.args.a.0 c.args.k
    (c.requires.needed.reached c.args.r.0 (slice_index_or c.args.counts.now c.args.r.0 0 - 1) some) in
    omega (arith, early, c.requires.small)
