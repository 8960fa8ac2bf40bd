use Rattle.std.proofs.Common.{◌≡◌, map, take}
use Rattle.prl_plan.specs.declared.graphs.Task.{Task}
use Rattle.prl_cores.proofs.spreading.clocks_of.Given as goal

abbrev pub invariant-loop-task : goal.invariant-loop-task
invariant-loop-task l = l.clocks.items ≡ map (λ (task : Task). task.clock) (take l.task-index l.tasks)
