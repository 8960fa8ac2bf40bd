use Rattle.prl_words.proofs.FirstItems.{FirstAre, IsSmallEdge}
use Rattle.prl_words.proofs.sizes.graph_is_representable.Given as goal

abbrev pub invariant-loop-edge : goal.invariant-loop-edge
invariant-loop-edge l = FirstAre IsSmallEdge l.graph.edges l.edge-index
