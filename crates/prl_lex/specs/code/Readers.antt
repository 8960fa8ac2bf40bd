-- Readers of tokens: a reader answers a tree and the tokens after it, or where it is stuck.
use Rattle.std.specs.Prelude.{ℕ, zero, suc, Bool, false, ◌==◌, List, [], ◌∷◌, length, Result, Ok, Err, if◌then◌else◌}
use Rattle.std.specs.List.{list_any}
use Rattle.prl_base.specs.Reading.{◌>>=◌}
use Rattle.prl_base.specs.declared.places.Span.{Span}
use Rattle.prl_lex.specs.Lexemes.{Lexeme, first_place}

pub data Stop : Type 0 where
  -- a token is unexpected, or the end, with so many tokens left
  Stuck : ℕ → Stop
  -- too deep for this reader
  Deep : Stop

abbrev pub Read : Type 0 → Type 0
Read A = Result (A × List Lexeme) Stop

-- the classes of a list
abbrev pub is_in : ℕ → List ℕ → Bool
is_in c classes = list_any (λ k. k == c) classes

-- whether the next token is of one of the classes
abbrev pub next_in : List ℕ → List Lexeme → Bool
next_in classes [] = false
next_in classes (t ∷ ts) = is_in t.class classes

-- one token of a class
abbrev pub one_at : ℕ → List Lexeme → Read Lexeme
one_at class [] = Err (Stuck 0)
one_at class (t ∷ ts) = if t.class == class then Ok (t, ts) else Err (Stuck (length (t ∷ ts)))

-- the first where the next token is of one of the classes, and else the second
abbrev pub choice : {A : Type 0} → List ℕ → (List Lexeme → Read A) → (List Lexeme → Read A) → List Lexeme → Read A
choice classes read other ts = if next_in classes ts then read ts else other ts

-- as many as begin with one of the classes, at most n
unfoldable pub many_up_to : {A : Type 0} → List ℕ → (List Lexeme → Read A) → ℕ → List Lexeme → Read (List A)
many_up_to classes read zero ts = if next_in classes ts then Err Deep else Ok ([], ts)
many_up_to classes read (suc n) ts =
    if next_in classes ts
    then (read ts >>= λ x. (many_up_to classes read n x.1 >>= λ y. Ok (x.0 ∷ y.0, y.1)))
    else Ok ([], ts)

abbrev pub many_at : {A : Type 0} → List ℕ → (List Lexeme → Read A) → List Lexeme → Read (List A)
many_at classes read ts = many_up_to classes read (length ts) ts

-- the place of a token of the class
abbrev pub place_at : ℕ → List Lexeme → Read Span
place_at class ts = do
  t ← one_at class ts
  Ok (t.0.at, t.1)

-- a name and its place
abbrev pub name_at : List Lexeme → Read (List ℕ × Span)
name_at ts = do
  t ← one_at 0 ts
  Ok ((t.0.name, t.0.at), t.1)

-- a number and its place
abbrev pub number_at : List Lexeme → Read (ℕ × Span)
number_at ts = do
  t ← one_at 1 ts
  Ok ((t.0.number, t.0.at), t.1)

-- with the place of the first token
abbrev pub from_first : {A : Type 0} → (List Lexeme → Read A) → List Lexeme → Read (Span × A)
from_first read ts = read ts >>= λ x. Ok ((first_place ts, x.0), x.1)
