-- How whole texts are read.
use Rattle.std.specs.Prelude.{List, [], ◌∷◌, length, Result, Ok, Err}
use Rattle.prl_base.specs.Reading.{◌>>=◌}
use Rattle.prl_lex.specs.Lexemes.{Lexeme}
use Rattle.prl_lex.specs.code.Readers.{Stop, Stuck, Read}

-- the same, or what a language tells of this fault
abbrev pub told : {A E F : Type 0} → (E → F) → Result A E → Result A F
told fault (Ok x) = Ok x
told fault (Err e) = Err (fault e)

-- all tokens are read
abbrev pub ended : {A : Type 0} → A → List Lexeme → Result A Stop
ended a [] = Ok a
ended a (t ∷ ts) = Err (Stuck (length (t ∷ ts)))

abbrev pub all_at : {A : Type 0} → (List Lexeme → Read A) → List Lexeme → Result A Stop
all_at read ts = do
  x ← read ts
  ended x.0 x.1
