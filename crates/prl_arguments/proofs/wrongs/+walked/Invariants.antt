use Rattle.std.proofs.Common.{length}
use Rattle.prl_arguments.proofs.wrongs.+walked.Given as goal

abbrev pub decreases-walked : goal.decreases-walked
decreases-walked l = length l.words.now
