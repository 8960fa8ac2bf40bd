use Rattle.std.proofs.Common.{take}
use Rattle.prl_graph.specs.Vocabulary.{application_ports, node_no, AddsEdges}
use Rattle.prl_graph.proofs.edges.push_applications.Given as goal

abbrev pub invariant-loop-k : goal.invariant-loop-k
invariant-loop-k l = AddsEdges l.flat l.clocks.of (application_ports (node_no l.flat 0) (take l.k l.flat.apps)) l.initial.edges.items l.edges.items
