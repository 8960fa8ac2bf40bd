use Rattle.prl_causal.specs.code.Parts.{ArePlaced}
use Rattle.prl_causal.proofs.orders.placed_count.Given as goal

abbrev pub invariant-loop-i : goal.invariant-loop-i
invariant-loop-i l = ArePlaced l.args l.placed l.i
