use Rattle.prl_graph.specs.Vocabulary.{actuator_no, AreFirstTasks}
use Rattle.prl_graph.proofs.tasks.push_actuators.Given as goal

abbrev pub invariant-loop-k : goal.invariant-loop-k
invariant-loop-k l = AreFirstTasks l.flat l.clocks.of (actuator_no l.flat l.k) l.tasks.items
