use Rattle.std.proofs.Common.{◌≡◌, ◌==◌, ◌+◌, drop}
use Rattle.std.specs.List.{position_or_len}
use Rattle.prl_base.proofs.lines.len_before.Given as goal

-- what was passed and the bytes up to the first of the value make those of the text
abbrev pub invariant-loop-i : goal.invariant-loop-i
invariant-loop-i l = l.i + position_or_len (λ b. b == l.byte) (drop l.i l.text) ≡ position_or_len (λ b. b == l.byte) l.text
