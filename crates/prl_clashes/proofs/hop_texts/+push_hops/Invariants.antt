use Rattle.std.proofs.Common.{length}
use Rattle.prl_clashes.proofs.hop_texts.+push_hops.Given as goal

abbrev pub decreases-push_hops : goal.decreases-push_hops
decreases-push_hops l = length l.hops.now
