-- Languages: what stands in parentheses is a text of a grammar too.
use Rattle.std.specs.Prelude.{ℕ, zero, suc, List}
use Rattle.prl_lex.specs.Lexemes.{Lexeme}
use Rattle.prl_lex.specs.Productions.{Grammar, written}

pub record Language (R : Type 0) : Type 1 where
  -- what stands in parentheses
  pub body : Grammar R R

-- a text in which parentheses nest less than n deep
unfoldable pub within : {R : Type 0} → Language R → ℕ → R → List Lexeme → Type 0
within l zero t w = ⊥
within l (suc n) t w = written (within l n) l.body t w

unfoldable pub nested : {R : Type 0} → Language R → R → List Lexeme → Type 0
nested l t w = (n : ℕ) × within l n t w

-- which trees the lists of tokens stand for
abbrev pub Text : {R A : Type 0} → Language R → Grammar R A → A → List Lexeme → Type 0
Text l g = written (nested l) g
