use Rattle.std.proofs.Common.{take}
use Rattle.prl_graph.specs.Vocabulary.{actuator_no, actuator_ports, AddsEdges}
use Rattle.prl_graph.proofs.edges.push_actuators.Given as goal

abbrev pub invariant-loop-k : goal.invariant-loop-k
invariant-loop-k l = AddsEdges l.flat l.clocks.of (actuator_ports (actuator_no l.flat 0) (take l.k l.flat.outs)) l.initial.edges.items l.edges.items
