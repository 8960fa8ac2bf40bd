use Rattle.prl_base.proofs.Standard.{ap, arith, length}
use Rattle.prl_plan.specs.declared.graphs.TaskGraph.{TaskGraph}
use Rattle.prl_ages.proofs.SpanJobs.{taking, taken, taken_all}
use Rattle.prl_ages.proofs.spans.take_all.Goals as goal

pub loop-s-init : goal.loop-s-init
loop-s-init c = taking c.args.plan.now.graph c.args.chain.now c.args.a.0 c.args.from c.args.k c.args.extremes.now c.requires.are

pub loop-s-preserved : goal.loop-s-preserved
loop-s-preserved c =
    let count = ap (λ (g : TaskGraph). length g.tasks) c.graph.ensures.graph in
    taken c.args.plan.now.graph c.args.chain.now c.args.a.0 c.args.from c.args.k c.loop-s.s c.loop-s.extremes c.take_job.result c.loop-s.invariant
    (omega (arith, count, c.len-s-end.ensures, c.loop-s-test.true, c.loop-s.auto.s-end)) c.take_job.ensures

pub returns : goal.returns
returns c =
    let count = ap (λ (g : TaskGraph). length g.tasks) c.graph.ensures.graph in
    taken_all c.args.plan.now.graph c.args.chain.now c.args.a.0 c.args.from c.args.k c.loop-s.s c.loop-s.extremes
    (omega (arith, count, c.len-s-end.ensures, c.loop-s-test.false, c.loop-s.auto.s-end)) c.loop-s.invariant
