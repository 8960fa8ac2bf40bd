use Rattle.test_calls.specs.Devices.{AreNoNodes}
use Rattle.test_calls.proofs.devices.are_no_nodes.Given as goal

abbrev pub invariant-loop-task : goal.invariant-loop-task
invariant-loop-task l = AreNoNodes l.task-index l.tasks
