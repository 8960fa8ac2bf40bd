use Rattle.prl_base.proofs.Standard.{◌≡◌, ◌+◌, drop, option_map}
use Rattle.prl_lex.specs.Tokens.{closing_len}
use Rattle.prl_lex.proofs.pieces.closing_len.Given as goal

-- the closing of what is left is as much further as there was before
abbrev pub invariant-loop-i : goal.invariant-loop-i
invariant-loop-i l = option_map (λ n. n + l.i) (closing_len (drop l.i l.text)) ≡ closing_len l.text
