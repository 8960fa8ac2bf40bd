use Rattle.std.proofs.Common.{length}
use Rattle.prl_arguments.proofs.dashes.+from_dashes.Given as goal

abbrev pub decreases-from_dashes : goal.decreases-from_dashes
decreases-from_dashes l = length l.words.now
