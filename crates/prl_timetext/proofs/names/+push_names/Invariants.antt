use Rattle.prl_base.proofs.Standard.{length}
use Rattle.prl_timetext.proofs.names.+push_names.Given as goal

abbrev pub decreases-push_names : goal.decreases-push_names
decreases-push_names l = length l.tasks.now
