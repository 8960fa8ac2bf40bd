use Rattle.prl_base.proofs.Standard.{Bool, ◌+◌, sym, ap, subst, arith, length}
use Rattle.prl_plan.specs.declared.graphs.TaskGraph.{TaskGraph}
use Rattle.prl_ages.specs.code.Rising.{IsUnderWay}
use Rattle.prl_ages.proofs.Counted.{round_goes_on, round_settled}
use Rattle.prl_ages.proofs.needs.round.Goals as goal

pub loop-e-preserved : goal.loop-e-preserved
loop-e-preserved c =
    let way = c.loop-e.invariant in
    subst (λ (b : Bool). IsUnderWay c.args.plan.now.graph c.args.chain.now c.args.a.0 c.args.k c.args.counts.now (c.loop-e.e + 1) c.take_edge-took.new.counts b) (sym c.either-rose.ensures)
    (round_goes_on c.args.plan.now.graph c.args.chain.now c.args.a.0 c.args.k c.args.counts.now c.loop-e.e c.loop-e.counts c.take_edge-took.new.counts c.loop-e.rose c.take_edge-took.result way
    c.take_edge-took.ensures.found c.take_edge-took.ensures.rises c.take_edge-took.ensures.same c.take_edge-took.ensures.settled)

pub returns-clause-settled : goal.returns-clause-settled
returns-clause-settled c =
    let same = ap (λ (g : TaskGraph). length g.edges) c.graph.ensures.graph in
    round_settled c.args.plan.now.graph c.args.chain.now c.args.a.0 c.args.k c.args.counts.now c.loop-e.e c.loop-e.counts c.loop-e.rose
    (omega (arith, c.len-e-end.ensures, same, c.loop-e-test.false, c.loop-e.auto.e-end)) c.loop-e.invariant
