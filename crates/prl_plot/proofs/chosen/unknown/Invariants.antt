use Rattle.std.proofs.Common.{length}
use Rattle.prl_plot.proofs.chosen.unknown.Given as goal

abbrev pub decreases-loop-rest : goal.decreases-loop-rest
decreases-loop-rest l = length l.rest
