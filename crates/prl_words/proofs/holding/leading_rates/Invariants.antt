use Rattle.prl_words.specs.code.Holding.{IsLeading}
use Rattle.prl_words.proofs.holding.leading_rates.Given as goal

abbrev pub invariant-loop-i : goal.invariant-loop-i
invariant-loop-i l = IsLeading l.ops l.i l.times
