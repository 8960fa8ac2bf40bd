-- How a sink's bytes grow, where they are known.
use Rattle.std.specs.Prelude.{◌≡◌, ◌<◌, ◌++◌, ℕ, List, [], length, take, Option, Some, None, Result, Ok, Err}
use Rattle.prl_io.specs.declared.writing.Failed.{Failed}

-- the bytes with this text after them
abbrev pub appended : Option (List ℕ) → List ℕ → Option (List ℕ)
appended None text = None
appended (Some bytes) text = Some (bytes ++ text)

-- the front of the piece that a write took
abbrev pub taken : Result ℕ Failed → List ℕ → List ℕ
taken (Ok count) piece = take count piece
taken (Err failed) piece = []

-- only a front of the text was appended, and a part of the text is left
pub record AppendsFront (old new : Option (List ℕ)) (text : List ℕ) : Type 0 where
  pub front : List ℕ
  pub rest : List ℕ
  pub parts : front ++ rest ≡ text
  pub unwritten : 0 < length rest
  pub grown : new ≡ appended old front

-- what writing a text did: at Ok the whole text was appended, else only a front
abbrev pub IsWritten : Option (List ℕ) → Option (List ℕ) → List ℕ → Result (Unit {0}) Failed → Type 0
IsWritten old new text (Ok done) = new ≡ appended old text
IsWritten old new text (Err failed) = AppendsFront old new text
