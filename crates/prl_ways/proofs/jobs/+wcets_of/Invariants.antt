use Rattle.std.proofs.Common.{length}
use Rattle.prl_ways.proofs.jobs.+wcets_of.Given as goal

abbrev pub decreases-wcets_of : goal.decreases-wcets_of
decreases-wcets_of l = length l.rest.now
