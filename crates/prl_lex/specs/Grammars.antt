-- Grammars as relations: which trees stand for which lists of tokens. A grammar of trees A is
-- `A → List Lexeme → Type 0`.
use Rattle.std.specs.Prelude.{◌≡◌, ◌⊎◌, ℕ, List, [], ◌∷◌, ◌++◌}
use Rattle.prl_base.specs.declared.places.Span.{Span}
use Rattle.prl_lex.specs.Lexemes.{Lexeme, first_place}

-- one token of a class
pub record One (class : ℕ) (t : Lexeme) (w : List Lexeme) : Type 0 where
  pub is : t.class ≡ class
  pub whole : w ≡ t ∷ []

-- no token, and this tree
pub record Give {A : Type 0} (x : A) (a : A) (w : List Lexeme) : Type 0 where
  pub is : a ≡ x
  pub whole : w ≡ []

-- a text, and what is made of its tree
abbrev pub Action : {A B : Type 0} → (A → List Lexeme → Type 0) → (A → B) → B → List Lexeme → Type 0
Action {A} W f b w = (a : A) × (b ≡ f a) × W a w

-- one text after another
abbrev pub Both : {A B : Type 0} → (A → List Lexeme → Type 0) → (B → List Lexeme → Type 0) → A × B → List Lexeme → Type 0
Both W V x w = (u : List Lexeme) × (v : List Lexeme) × (w ≡ u ++ v) × W x.0 u × V x.1 v

-- one of two
abbrev pub Either : {A : Type 0} → (A → List Lexeme → Type 0) → (A → List Lexeme → Type 0) → A → List Lexeme → Type 0
Either W V a w = W a w ⊎ V a w

-- any number of texts in a row
abbrev pub Many : {A : Type 0} → (A → List Lexeme → Type 0) → List A → List Lexeme → Type 0
Many W [] w = w ≡ []
Many W (a ∷ rest) w = (u : List Lexeme) × (v : List Lexeme) × (w ≡ u ++ v) × W a u × Many W rest v

-- a text with the place of its first token
abbrev pub FromFirst : {A : Type 0} → (A → List Lexeme → Type 0) → Span × A → List Lexeme → Type 0
FromFirst W x w = (x.0 ≡ first_place w) × W x.1 w
