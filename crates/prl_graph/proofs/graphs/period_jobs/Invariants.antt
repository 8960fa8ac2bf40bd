use Rattle.std.proofs.Common.{◌≡◌, ◌≤◌, ◌*◌, take}
use Rattle.prl_graph.specs.TaskGraphs.{jobs_within}
use Rattle.prl_graph.proofs.graphs.period_jobs.Given as goal

abbrev pub invariant-loop-task : goal.invariant-loop-task
invariant-loop-task l = record {
  is : l.jobs ≡ jobs_within l.hyper (take l.task-index l.tasks);
  few : l.jobs ≤ l.task-index * l.hyper;
}
