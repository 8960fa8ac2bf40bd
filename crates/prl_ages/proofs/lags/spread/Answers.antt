use Rattle.prl_base.proofs.Standard.{Bool, ◌+◌, sym, ap, subst, arith, length}
use Rattle.prl_plan.specs.declared.graphs.TaskGraph.{TaskGraph}
use Rattle.prl_ages.specs.code.Lags.{IsSpreading}
use Rattle.prl_ages.proofs.Lagging.{spreads_on, spread_known}
use Rattle.prl_ages.proofs.lags.spread.Goals as goal

pub loop-e-preserved : goal.loop-e-preserved
loop-e-preserved c =
    let way = c.loop-e.invariant in
    subst (λ (b : Bool). IsSpreading c.args.plan.now.graph c.args.chain.now c.args.a.0 c.args.lags.now (c.loop-e.e + 1) c.pass_on-passed.new.lags b) (sym c.either-came.ensures)
    (spreads_on c.args.plan.now.graph c.args.chain.now c.args.a.0 c.args.lags.now c.loop-e.e c.loop-e.lags c.pass_on-passed.new.lags c.loop-e.came c.pass_on-passed.result way
    c.pass_on-passed.ensures.are c.pass_on-passed.ensures.falls c.pass_on-passed.ensures.same c.pass_on-passed.ensures.known)

pub returns-clause-known : goal.returns-clause-known
returns-clause-known c =
    let same = ap (λ (g : TaskGraph). length g.edges) c.graph.ensures.graph in
    spread_known c.args.plan.now.graph c.args.chain.now c.args.a.0 c.args.lags.now c.loop-e.e c.loop-e.lags c.loop-e.came
    (omega (arith, c.len-e-end.ensures, same, c.loop-e-test.false, c.loop-e.auto.e-end)) c.loop-e.invariant
