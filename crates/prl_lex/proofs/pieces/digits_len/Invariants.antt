use Rattle.prl_base.proofs.Standard.{◌≡◌, ◌+◌, drop, is_ascii_digit, prefix_len}
use Rattle.prl_lex.proofs.pieces.digits_len.Given as goal

abbrev pub invariant-loop-i : goal.invariant-loop-i
invariant-loop-i l = l.i + prefix_len is_ascii_digit (drop l.i l.text) ≡ prefix_len is_ascii_digit l.text
