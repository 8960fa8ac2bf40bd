use Rattle.prl_words.proofs.Listed.{AreSoMany}
use Rattle.prl_words.proofs.graphs.listed.Given as goal

abbrev pub invariant-loop-edge : goal.invariant-loop-edge
invariant-loop-edge l = AreSoMany l.graph.edges l.edge-index l.words.items
