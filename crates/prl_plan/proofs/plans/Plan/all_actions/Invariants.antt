use Rattle.std.proofs.Common.{◌≡◌, ◌*◌, ◌≤◌, ◌^◌, length}
use Rattle.prl_plan.specs.Vocabulary.{sum_below, task_at, job_count, actions_of}
use Rattle.prl_plan.proofs.plans.Plan.all_actions.Given as goal

abbrev pub invariant-loop-i : goal.invariant-loop-i
invariant-loop-i l = record {
  counted : l.count ≡ sum_below (λ i. sum_below (λ n. length (actions_of l.self i n)) (job_count (task_at l.self.graph i) l.until)) l.i;
  small : l.count ≤ l.i * 2 ^ 32;
}
