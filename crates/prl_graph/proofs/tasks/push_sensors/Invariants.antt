use Rattle.prl_graph.specs.code.Made.{AreFirstTasks}
use Rattle.prl_graph.proofs.tasks.push_sensors.Given as goal

abbrev pub invariant-loop-k : goal.invariant-loop-k
invariant-loop-k l = AreFirstTasks l.flat l.clocks.of l.k l.tasks.items
