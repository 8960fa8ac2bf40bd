use Rattle.prl_base.proofs.Standard.{◌≡◌, ◌+◌, drop, position_or_len}
use Rattle.prl_sensors.specs.code.Plain.{is_mark}
use Rattle.prl_sensors.proofs.plain.plain_len.Given as goal

-- what was passed and the rest make the field
abbrev pub invariant-loop-i : goal.invariant-loop-i
invariant-loop-i l = l.i + position_or_len is_mark (drop l.i l.text) ≡ position_or_len is_mark l.text
