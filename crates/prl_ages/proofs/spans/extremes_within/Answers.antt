use Rattle.prl_base.proofs.Standard.{◌≡◌, ℕ, subst, arith}
use Rattle.prl_ages.specs.code.Extremes.{AreExtremes}
use Rattle.prl_ages.proofs.spans.extremes_within.Goals as goal

pub returns : goal.returns
returns c =
    let same : c.loop-k.k ≡ c.args.to = omega (arith, c.loop-k-test.false, c.loop-k.auto.k-end, c.loop-k.auto.k, c.requires.order) in
    subst (λ (x : ℕ). AreExtremes c.args.plan.now.graph c.args.chain.now c.args.a.0 c.args.from x c.loop-k.list.items) same c.loop-k.invariant
