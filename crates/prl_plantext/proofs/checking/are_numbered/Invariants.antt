use Rattle.std.proofs.Common.{◌≡◌, ◌+◌, drop}
use Rattle.prl_plantext.specs.code.Checks.{are_numbered, none_counted}
use Rattle.prl_plantext.proofs.checking.are_numbered.Given as goal

abbrev pub invariant-loop-task : goal.invariant-loop-task
invariant-loop-task l =
    (are_numbered l.counts (drop l.task-index l.tasks) ≡ are_numbered none_counted l.tasks) × (l.counts.sensors + l.counts.nodes + l.counts.actuators ≡ l.task-index)
