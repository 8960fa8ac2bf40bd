use Rattle.prl_base.proofs.Standard.{length}
use Rattle.prl_times.proofs.options.+push_values.Given as goal

abbrev pub decreases-push_values : goal.decreases-push_values
decreases-push_values l = length l.words.now
