use Rattle.std.proofs.Common.{length}
use Rattle.prl_causal.proofs.walks.Walk.close.Given as goal

abbrev pub decreases-loop-j : goal.decreases-loop-j
decreases-loop-j l = length l.self.open.items
