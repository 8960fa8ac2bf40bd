use Rattle.std.proofs.Common.{◌≡◌, ◌++◌, length}
use Rattle.prl_plantext.specs.code.Graphs.{operators_in}
use Rattle.prl_plantext.proofs.reading.operators_in.Given as goal

-- the operators so far and those of the words that are left are all
abbrev pub invariant-loop-words : goal.invariant-loop-words
invariant-loop-words l = l.ops.items ++ operators_in l.words ≡ operators_in l.fn.words

abbrev pub decreases-loop-words : goal.decreases-loop-words
decreases-loop-words l = length l.words
