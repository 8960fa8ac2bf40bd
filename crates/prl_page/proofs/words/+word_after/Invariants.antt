use Rattle.std.proofs.Common.{length}
use Rattle.prl_page.proofs.words.+word_after.Given as goal

abbrev pub decreases-word_after : goal.decreases-word_after
decreases-word_after l = length l.words.now
