use Rattle.std.specs.Prelude.{⊤}
use Rattle.prl_spots.proofs.counts.of_node.Given as goal

-- nothing is kept: the loop ends at the first that has the name
abbrev pub invariant-loop-node : goal.invariant-loop-node
invariant-loop-node l = ⊤
