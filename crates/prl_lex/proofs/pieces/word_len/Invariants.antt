use Rattle.prl_base.proofs.Standard.{◌≡◌, ◌+◌, drop, prefix_len}
use Rattle.prl_base.specs.Names.{is_word_byte}
use Rattle.prl_lex.proofs.pieces.word_len.Given as goal

abbrev pub invariant-loop-i : goal.invariant-loop-i
invariant-loop-i l = l.i + prefix_len is_word_byte (drop l.i l.text) ≡ prefix_len is_word_byte l.text
