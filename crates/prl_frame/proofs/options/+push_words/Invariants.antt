use Rattle.prl_base.proofs.Standard.{length}
use Rattle.prl_frame.proofs.options.+push_words.Given as goal

abbrev pub decreases-push_words : goal.decreases-push_words
decreases-push_words l = length l.more.now
