use Rattle.prl_base.proofs.Standard.{◌≡◌, ◌<◌, ◌^◌, drop, digits_value, digits_value_after}
use Rattle.prl_lex.proofs.lexing.number_of.Given as goal

-- what is left continues the number so far
abbrev pub invariant-loop-digit : goal.invariant-loop-digit
invariant-loop-digit l =
    (digits_value_after 10 l.number (drop l.digit-index l.digits) ≡ digits_value 10 l.digits) × (l.number < 2 ^ 64)
