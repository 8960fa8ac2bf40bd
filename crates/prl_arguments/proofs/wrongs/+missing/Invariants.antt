use Rattle.std.proofs.Common.{length}
use Rattle.prl_arguments.proofs.wrongs.+missing.Given as goal

abbrev pub decreases-missing : goal.decreases-missing
decreases-missing l = length l.settings.now
