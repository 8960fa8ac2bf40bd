-- Grammars as data. What stands for R is read in parentheses.
use Rattle.std.specs.Prelude.{ℕ, List}
use Rattle.prl_base.specs.declared.places.Span.{Span}
use Rattle.prl_lex.specs.Lexemes.{Lexeme}
use Rattle.prl_lex.specs.Grammars.{One, Give, Action, Both, Either, Many, FromFirst}

pub data Grammar (R : Type 0) : Type 0 → Type 1 where
  token : ℕ → Grammar R Lexeme
  give : {A : Type 0} → A → Grammar R A
  -- a text, and what is made of its tree
  action : {A B : Type 0} → Grammar R A → (A → B) → Grammar R B
  -- one text after another
  both : {A B : Type 0} → Grammar R A → Grammar R B → Grammar R (A × B)
  either : {A : Type 0} → Grammar R A → Grammar R A → Grammar R A
  many : {A : Type 0} → Grammar R A → Grammar R (List A)
  -- with the place of the first token
  placed : {A : Type 0} → Grammar R A → Grammar R (Span × A)
  inner : Grammar R R

-- which trees the lists of tokens stand for
abbrev pub written : {R A : Type 0} → (R → List Lexeme → Type 0) → Grammar R A → A → List Lexeme → Type 0
written I (token class) = One class
written I (give x) = Give x
written I (action g f) = Action (written I g) f
written I (both g h) = Both (written I g) (written I h)
written I (either g h) = Either (written I g) (written I h)
written I (many g) = Many (written I g)
written I (placed g) = FromFirst (written I g)
written I inner = I
