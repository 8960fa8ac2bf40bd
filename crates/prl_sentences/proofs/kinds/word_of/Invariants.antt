use Rattle.prl_base.proofs.Standard.{◌≡◌, ◌+◌, drop, position_or_len}
use Rattle.prl_sentences.specs.Kinds.{is_gap}
use Rattle.prl_sentences.proofs.kinds.word_of.Given as goal

-- no byte that was passed is a gap
abbrev pub invariant-loop-i : goal.invariant-loop-i
invariant-loop-i l = l.i + position_or_len is_gap (drop l.i l.text) ≡ position_or_len is_gap l.text
