use Rattle.std.proofs.Common.{◌≡◌, ◌+◌, ◌*◌, ◌≤◌, length, take}
use Rattle.prl_plan.specs.Vocabulary.{sum_below, reads_of, writes_of}
use Rattle.prl_plan.proofs.plans.Plan.actions_of_task.Given as goal

abbrev pub invariant-loop-e : goal.invariant-loop-e
invariant-loop-e l = record {
  counted : l.count ≡ l.jobs + sum_below (λ n. length (reads_of l.self l.fn.i.0 n 0 (take l.e l.self.graph.edges))) l.jobs
      + sum_below (λ n. length (writes_of l.self l.fn.i.0 n 0 (take l.e l.self.graph.edges))) l.jobs;
  small : l.count ≤ l.jobs + l.e * (4 * l.jobs);
}
