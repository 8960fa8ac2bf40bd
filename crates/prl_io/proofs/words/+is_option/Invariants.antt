use Rattle.std.proofs.Common.{length}
use Rattle.prl_io.proofs.words.+is_option.Given as goal

abbrev pub decreases-is_option : goal.decreases-is_option
decreases-is_option l = length l.options.now
