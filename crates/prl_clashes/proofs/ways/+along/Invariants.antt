use Rattle.std.proofs.Common.{length}
use Rattle.prl_clashes.proofs.ways.+along.Given as goal

abbrev pub decreases-along : goal.decreases-along
decreases-along l = length l.hops.now
