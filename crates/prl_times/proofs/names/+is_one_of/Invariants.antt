use Rattle.prl_base.proofs.Standard.{length}
use Rattle.prl_times.proofs.names.+is_one_of.Given as goal

abbrev pub decreases-is_one_of : goal.decreases-is_one_of
decreases-is_one_of l = length l.tasks.now
