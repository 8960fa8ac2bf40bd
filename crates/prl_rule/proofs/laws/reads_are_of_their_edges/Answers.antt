use Rattle.prl_base.proofs.Standard.{arith, slice_get-get_or}
use Rattle.prl_plan.specs.Vocabulary.{IsTask, no_task, task_at}
use Rattle.prl_rule.specs.Known.{job_values_of}
use Rattle.prl_rule.proofs.RunFacts.{named_read}
use Rattle.prl_rule.proofs.laws.reads_are_of_their_edges.Goals as goal

pub returns : goal.returns
returns c = λ k plan bodies rows.
    let jobs = c.job_values_exist.ensures k.plan plan k.bodies k.sensors k.horizon.until in
    named_read k plan
    (λ i n job.
    let task : IsTask k.plan.graph.hyper (task_at k.plan.graph i) = plan.graph.tasks i (task_at k.plan.graph i) (slice_get-get_or k.plan.graph.tasks i no_task job.task) in
    (c.horizon_jobs_are_counted.ensures k.plan.graph k.horizon.until i n job.task (omega (arith, task.period.0))).1 job.job)
    (λ i n place. c.actions_are_as_defined.ensures.each k.plan i n place)
    (λ i n place port is. c.actions_are_as_defined.ensures.ports k.plan plan.graph i n place port is)
    (λ i n place is. c.actions_are_as_defined.ensures.end k.plan i n place is)
    jobs
    (λ e n inside job. c.job_values_are_typed.ensures.edges k.plan plan k.bodies k.sensors k.horizon.until (job_values_of k) bodies rows jobs e n inside job)
