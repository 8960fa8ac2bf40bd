-- What decides by one token of look-ahead.
use Rattle.std.specs.Prelude.{◌≡◌, ℕ, Bool, true, false, ◌&&◌, ◌||◌, List, [], ◌∷◌, ◌++◌, if◌then◌else◌}
use Rattle.prl_lex.specs.Lexemes.{Lexeme}
use Rattle.prl_lex.specs.code.Readers.{is_in}

-- the classes that a text begins with, whether it may be empty, and the classes with which a whole text would go on
pub record Shape : Type 0 where
  pub first : List ℕ
  pub nullable : Bool
  pub more : List ℕ

abbrev pub StopsBefore : List ℕ → List Lexeme → Type 0
StopsBefore more [] = Unit {0}
StopsBefore more (t ∷ ts) = is_in t.class more ≡ false

abbrev pub Begins : Shape → List Lexeme → Type 0
Begins s [] = s.nullable ≡ true
Begins s (t ∷ ts) = is_in t.class s.first ≡ true

-- one text after another
abbrev pub then_shape : Shape → Shape → Shape
then_shape s r = record {
  first = if s.nullable then s.first ++ r.first else s.first;
  nullable = s.nullable && r.nullable;
  more = if r.nullable then r.more ++ s.more else r.more;
}

-- one of two
abbrev pub either_shape : Shape → Shape → Shape
either_shape s r = record {
  first = s.first ++ r.first;
  nullable = s.nullable || r.nullable;
  more = s.more ++ r.more ++ (if r.nullable then s.first else []);
}

-- any number in a row
abbrev pub many_shape : Shape → Shape
many_shape s = record { first = s.first; nullable = true; more = s.first ++ s.more }
