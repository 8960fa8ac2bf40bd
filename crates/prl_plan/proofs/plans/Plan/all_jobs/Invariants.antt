use Rattle.std.proofs.Common.{◌≡◌, ◌*◌, ◌≤◌, ◌^◌}
use Rattle.prl_plan.specs.Vocabulary.{sum_below, task_at, job_count}
use Rattle.prl_plan.proofs.plans.Plan.all_jobs.Given as goal

abbrev pub invariant-loop-i : goal.invariant-loop-i
invariant-loop-i l = record {
  counted : l.jobs ≡ sum_below (λ i. job_count (task_at l.self.graph i) l.until) l.i;
  small : l.jobs ≤ l.i * 2 ^ 33;
}
