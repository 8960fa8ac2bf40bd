use Rattle.prl_base.proofs.Standard.{◌≡◌, ◌+◌, drop, position_or_len}
use Rattle.prl_spots.specs.Names.{is_byte}
use Rattle.prl_spots.proofs.names.len_before.Given as goal

-- no byte that was passed is the one that is looked for
abbrev pub invariant-loop-i : goal.invariant-loop-i
invariant-loop-i l = l.i + position_or_len (is_byte l.byte) (drop l.i l.text) ≡ position_or_len (is_byte l.byte) l.text
