use Rattle.std.proofs.Common.{◌≡◌, ◌≤◌, ◌*◌, ◌/◌, map, sum, take}
use Rattle.prl_plan.specs.declared.graphs.Task.{Task}
use Rattle.prl_plan.specs.declared.limits.TheConstants.{MAX_HYPER}
use Rattle.prl_plantext.proofs.checking.jobs_in.Given as goal

abbrev pub invariant-loop-task : goal.invariant-loop-task
invariant-loop-task l =
    (l.jobs ≡ sum (map (λ (task : Task). l.hyper / task.clock.period) (take l.task-index l.tasks))) × (l.jobs ≤ l.task-index * MAX_HYPER)
