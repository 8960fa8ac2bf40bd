use Rattle.std.proofs.Common.{◌≡◌, ◌-◌, ◌≤◌, length, drop}
use Rattle.prl_lex.specs.Lexing.{tokens_from, tokens_of}
use Rattle.prl_lex.proofs.Steps.{with_front}
use Rattle.prl_lex.proofs.lexing.tokens_of.Given as goal

-- the tokens so far and those of what is left are those of the text
abbrev pub invariant-loop-at : goal.invariant-loop-at
invariant-loop-at l = record {
  exact : with_front l.tokens.items (tokens_from l.at l.depth 0 (drop l.at l.text)) ≡ tokens_of l.text;
  within : l.at ≤ length l.text;
  depth : l.depth ≤ l.at;
}

abbrev pub decreases-loop-at : goal.decreases-loop-at
decreases-loop-at l = length l.initial.text - l.at
