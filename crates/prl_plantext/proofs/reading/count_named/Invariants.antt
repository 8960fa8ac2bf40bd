use Rattle.std.proofs.Common.{◌≡◌, ◌≤◌, take}
use Rattle.prl_plantext.specs.code.Graphs.{count_named}
use Rattle.prl_plantext.proofs.reading.count_named.Given as goal

abbrev pub invariant-loop-task : goal.invariant-loop-task
invariant-loop-task l = (l.count ≡ count_named l.name (take l.task-index l.tasks)) × (l.count ≤ l.task-index)
