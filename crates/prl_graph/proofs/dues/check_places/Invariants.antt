use Rattle.std.proofs.Common.{◌<◌, ℕ}
use Rattle.prl_graph.specs.code.Marks.{IsPlaced}
use Rattle.prl_graph.proofs.dues.check_places.Given as goal

abbrev pub invariant-loop-i : goal.invariant-loop-i
invariant-loop-i l = (j : ℕ) → j < l.i → IsPlaced l.flat j
