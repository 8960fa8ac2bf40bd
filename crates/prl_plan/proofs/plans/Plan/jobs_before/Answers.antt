use Rattle.std.proofs.Common.{ap, arith}
use Rattle.prl_base.specs.declared.operators.Clock.{Clock}
use Rattle.prl_plan.proofs.PlanFacts.{task_fact}
use Rattle.prl_plan.proofs.plans.Plan.jobs_before.Goals as goal

pub overflow_sub-result : goal.overflow_sub-result
overflow_sub-result c =
    omega (arith, (task_fact c.args.self.now c.clock_of-clock.ensures.plan c.args.i.0 c.requires.task).period.0, ap (λ (k : Clock). k.period) c.clock_of-clock.ensures.clock)

pub overflow_add-result : goal.overflow_add-result
overflow_add-result c =
    omega (arith, (task_fact c.args.self.now c.clock_of-clock.ensures.plan c.args.i.0 c.requires.task).period.1, ap (λ (k : Clock). k.period) c.clock_of-clock.ensures.clock, c.saturating_sub.ensures, c.requires.until)

pub nonzero_div-result : goal.nonzero_div-result
nonzero_div-result c =
    omega (arith, (task_fact c.args.self.now c.clock_of-clock.ensures.plan c.args.i.0 c.requires.task).period.0, ap (λ (k : Clock). k.period) c.clock_of-clock.ensures.clock)
