use Rattle.std.proofs.Common.{length}
use Rattle.prl_arguments.proofs.dashes.+dashes_at.Given as goal

abbrev pub decreases-dashes_at : goal.decreases-dashes_at
decreases-dashes_at l = length l.words.now
