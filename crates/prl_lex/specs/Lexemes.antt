-- Tokens as a grammar sees them.
use Rattle.std.specs.Prelude.{ℕ, List, [], ◌∷◌}
use Rattle.prl_base.specs.declared.places.Span.{Span}

-- The class tells a grammar's tokens apart: 0 is a name, 1 a number, and each keyword and symbol of a language has a
-- class of its own from 2 on.
pub record Lexeme : Type 0 where
  pub class : ℕ
  -- the bytes of a name
  pub name : List ℕ
  -- the value of a number
  pub number : ℕ
  pub at : Span

-- the place of the first token
abbrev pub first_place : List Lexeme → Span
first_place [] = record { at = 0; len = 0 }
first_place (t ∷ ts) = t.at
