use Rattle.prl_base.proofs.Standard.{◌/◌, ap, arith}
use Rattle.prl_base.specs.declared.operators.Clock.{Clock}
use Rattle.prl_plan.specs.declared.graphs.TaskGraph.{TaskGraph}
use Rattle.prl_plan.proofs.RoundPeriods.{task_is}
use Rattle.prl_ages.proofs.Lagging.{jobs_some}
use Rattle.prl_ages.proofs.lags.jobs_of.Goals as goal

pub nonzero_div-result : goal.nonzero_div-result
nonzero_div-result c =
    let p = ap (λ (k : Clock). k.period) c.clock_of-clock.ensures.clock in
    omega (arith, p, (task_is c.args.plan.now.graph c.clock_of-clock.ensures.plan.graph c.args.i.0 c.requires).period.0)

pub returns-clause-some : goal.returns-clause-some
returns-clause-some c =
    let h = ap (λ (g : TaskGraph). g.hyper / c.clock_of-clock.result.period) c.graph.ensures.graph in
    let p = ap (λ (k : Clock). c.args.plan.now.graph.hyper / k.period) c.clock_of-clock.ensures.clock in
    omega (arith, h, p, jobs_some c.args.plan.now.graph c.clock_of-clock.ensures.plan.graph c.args.i.0 c.requires)
