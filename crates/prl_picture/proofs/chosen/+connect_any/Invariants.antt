use Rattle.std.proofs.Common.{length}
use Rattle.prl_picture.proofs.chosen.+connect_any.Given as goal

abbrev pub decreases-connect_any : goal.decreases-connect_any
decreases-connect_any l = length l.edges.now
