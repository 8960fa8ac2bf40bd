use Rattle.prl_base.proofs.Standard.{length}
use Rattle.prl_times.proofs.names.+has_twice.Given as goal

abbrev pub decreases-has_twice : goal.decreases-has_twice
decreases-has_twice l = length l.tasks.now
