use Rattle.std.proofs.Common.{length}
use Rattle.prl_ways.proofs.rounds.+is_way.Given as goal

abbrev pub decreases-is_way : goal.decreases-is_way
decreases-is_way l = length l.rest.now
