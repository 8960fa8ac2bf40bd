use Rattle.prl_base.proofs.Standard.{◌≡◌, ◌+◌, ◌<◌, ℕ, None, length, slice_index, slice_index_or, refl, ap, sym, subst, arith}
use Rattle.prl_ages.specs.Verdicts.{IsVerdict}
use Rattle.prl_ages.specs.declared.verdicts.Verdict.{Verdict}
use Rattle.prl_ages.proofs.Windows.{all_told, one_told, verdict_is}
use Rattle.prl_ages.proofs.verdicts.all_verdicts.Goals as goal

pub loop-s-preserved : goal.loop-s-preserved
loop-s-preserved c =
    let graph = c.args.plan.now.graph in
    let inside : c.loop-s.s < length c.args.plan.now.graph.tasks = omega (arith, c.requires.windows.known.long, c.loop-s-test.true, c.loop-s.auto.s-end) in
    one_told graph c.args.chain.now c.args.a.0 c.loop-s.s c.loop-s.list.items c.verdict_of.result c.loop-s.invariant inside
    (subst (λ (x : Verdict). IsVerdict c.args.plan.now.graph c.args.chain.now c.loop-s.s c.args.a.0 x) (sym c.verdict_of.ensures)
    (verdict_is graph c.args.chain.now c.graph-graph.ensures.plan.graph c.args.a.0 c.args.turns c.args.ready c.args.lags.now c.args.counts.now c.args.first.now c.args.settled.now
    c.requires.actuator c.requires.windows c.loop-s.s inside (slice_index_or c.args.lags.now c.loop-s.s None) (slice_index c.args.counts.now c.loop-s.s) refl refl))
