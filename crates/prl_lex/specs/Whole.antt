-- The first token that is unexpected, and its place.
use Rattle.std.specs.Prelude.{◌≡◌, ℕ, ◌-◌, List, [], ◌∷◌, ◌++◌, length, drop, Option, Some, None}
use Rattle.prl_lex.specs.Lexemes.{Lexeme}

-- the place of the first of the tokens, or the end of the text
abbrev pub place_or : ℕ → List Lexeme → ℕ
place_or end [] = end
place_or end (t ∷ ts) = t.at.at

-- the place of the first of so many tokens that are left, or the end of the text
abbrev pub place_of : List Lexeme → ℕ → ℕ → ℕ
place_of ts left end = place_or end (drop (length ts - left) ts)

-- the class of the next token
abbrev pub next_class : List Lexeme → Option ℕ
next_class [] = None
next_class (t ∷ ts) = Some t.class

-- The first unexpected token, or the end, with so many tokens left: the tokens before it begin a text of the grammar,
-- and no text of the grammar goes on from them with a token of its class (where the end is unexpected: ends there).
pub record IsFirstUnexpected {A : Type 0} (W : A → List Lexeme → Type 0) (ts : List Lexeme) (left : ℕ) : Type 0 where
  pub taken : List Lexeme
  pub rest : List Lexeme
  pub whole : ts ≡ taken ++ rest
  pub count : left ≡ length rest
  pub begun : (a : A) × (more : List Lexeme) × W a (taken ++ more)
  pub no_text : (a : A) (other : List Lexeme) → next_class rest ≡ next_class other → W a (taken ++ other) → ⊥
