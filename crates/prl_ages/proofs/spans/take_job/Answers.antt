use Rattle.prl_base.proofs.Standard.{◌≡◌, ◌+◌, ◌-◌, ℕ, refl, slice_index_or, arith, sym, subst}
use Rattle.prl_ages.specs.code.Extremes.{IsExtreme}
use Rattle.prl_ages.specs.declared.spans.Extremes.{Extremes}
use Rattle.prl_ages.proofs.Reaching.{not_later}
use Rattle.prl_ages.proofs.SpanJobs.{extreme_more, extreme_none, last_is_freshest, none_reaches}
use Rattle.prl_ages.proofs.spans.take_job.Goals as goal

pub returns-then-count-eq0 : goal.returns-then-count-eq0
returns-then-count-eq0 c =
    extreme_none c.args.plan.now.graph c.args.chain.now c.args.s.0 c.args.a.0 c.args.from c.args.k c.args.so_far c.requires.so_far
    (λ m reaches. none_reaches c.args.plan.now.graph c.args.chain.now c.args.a.0 c.args.k c.args.s.0 m c.args.counts.now c.requires.needed c.if-count-eq0.true reaches)

pub age_of-requires-clause-early : goal.age_of-requires-clause-early
age_of-requires-clause-early c =
    let some : slice_index_or c.args.counts.now c.args.s.0 0 ≡ slice_index_or c.args.counts.now c.args.s.0 0 - 1 + 1 = omega (arith, c.if-count-eq0.false) in
    not_later c.args.plan.now.graph c.args.chain.now c.graph-graph.ensures.plan.graph c.args.s.0 (slice_index_or c.args.counts.now c.args.s.0 0 - 1) c.args.a.0 c.args.k
    (c.requires.needed.reached c.args.s.0 (slice_index_or c.args.counts.now c.args.s.0 0 - 1) some)

pub age_of-requires-2-clause-early : goal.age_of-requires-2-clause-early
age_of-requires-2-clause-early c =
    let some : slice_index_or c.args.counts.now c.args.s.0 0 ≡ slice_index_or c.args.counts.now c.args.s.0 0 - 1 + 1 = omega (arith, c.if-count-eq0.false) in
    not_later c.args.plan.now.graph c.args.chain.now c.graph-graph.ensures.plan.graph c.args.s.0 (slice_index_or c.args.counts.now c.args.s.0 0 - 1) c.args.a.0 c.args.k
    (c.requires.needed.reached c.args.s.0 (slice_index_or c.args.counts.now c.args.s.0 0 - 1) some)

pub returns : goal.returns
returns c =
    let some : slice_index_or c.args.counts.now c.args.s.0 0 ≡ slice_index_or c.args.counts.now c.args.s.0 0 - 1 + 1 = omega (arith, c.if-count-eq0.false) in
    let fresh = last_is_freshest c.args.plan.now.graph c.args.chain.now c.args.a.0 c.args.k c.args.s.0 (slice_index_or c.args.counts.now c.args.s.0 0 - 1) c.args.counts.now c.requires.needed some in
    subst (λ (x : Extremes). IsExtreme c.args.plan.now.graph c.args.chain.now c.args.s.0 c.args.a.0 c.args.from (c.args.k + 1) x) (sym c.with_ages.ensures)
    (extreme_more c.args.plan.now.graph c.args.chain.now c.args.s.0 c.args.a.0 c.args.from c.args.k c.args.so_far
    (record { ticks = c.age_of.result; job = c.args.k; instance = slice_index_or c.args.counts.now c.args.s.0 0 - 1 })
    (record { ticks = c.age_of-2.result; job = c.args.k; instance = slice_index_or c.args.counts.now c.args.s.0 0 - 1 }) c.requires.from c.requires.so_far
    (refl, fresh, c.age_of.ensures) (refl, fresh, c.age_of-2.ensures))
