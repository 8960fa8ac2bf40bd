use Rattle.test_calls.specs.Devices.{AreIntEdges}
use Rattle.test_calls.proofs.devices.are_int_edges.Given as goal

abbrev pub invariant-loop-edge : goal.invariant-loop-edge
invariant-loop-edge l = AreIntEdges l.edge-index l.edges
