use Rattle.prl_base.proofs.Standard.{◌≡◌, ◌+◌, ◌==◌, drop, position_or_len}
use Rattle.prl_views.proofs.parts.place_of.Given as goal

-- what was passed and the rest make the list
abbrev pub invariant-loop-i : goal.invariant-loop-i
invariant-loop-i l =
    l.i + position_or_len (λ p. p == l.processor) (drop l.i l.used) ≡ position_or_len (λ p. p == l.processor) l.used
