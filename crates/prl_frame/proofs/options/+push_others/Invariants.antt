use Rattle.prl_base.proofs.Standard.{length}
use Rattle.prl_frame.proofs.options.+push_others.Given as goal

abbrev pub decreases-push_others : goal.decreases-push_others
decreases-push_others l = length l.words.now
