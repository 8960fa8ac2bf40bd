use Rattle.std.proofs.Common.{take}
use Rattle.prl_graph.specs.Vocabulary.{argument_ports, AddsEdges}
use Rattle.prl_graph.proofs.edges.push_arguments.Given as goal

abbrev pub invariant-loop-j : goal.invariant-loop-j
invariant-loop-j l = AddsEdges l.flat l.clocks.of (argument_ports l.to 0 (take l.j l.args)) l.initial.edges.items l.edges.items
