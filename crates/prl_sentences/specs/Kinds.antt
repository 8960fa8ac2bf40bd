-- The kinds of lines that `prelude` writes on `err`.
use Rattle.std.specs.Prelude.{◌≡◌, ◌+◌, ◌==◌, ◌&&◌, ◌||◌, IsTrue, ℕ, Bool, List, [], length, drop, nat_eq, if◌then◌else◌}
use Rattle.std.specs.List.{before_first, ends_with, position_or_len, starts_with}
use Rattle.prl_base.specs.Lines.{is_line_feed}
use Rattle.prl_sentences.specs.declared.kinds.Kind.{Kind}

-- the text begins and ends as lines of the kind do
abbrev pub is_line_of : Kind → List ℕ → Bool
is_line_of kind line = starts_with nat_eq line kind.front.now && ends_with nat_eq line kind.tail.now

-- the text is one line, of this kind
pub record IsLineOf (kind : Kind) (line : List ℕ) : Type 0 where
  pub ended : position_or_len is_line_feed line + 1 ≡ length line
  pub of_kind : IsTrue (is_line_of kind line)

-- a blank or a line feed
abbrev pub is_gap : ℕ → Bool
is_gap b = (b == 32) || (b == 10)

-- what stands after the front of a line
abbrev pub rest_of : Kind → List ℕ → List ℕ
rest_of kind line = if starts_with nat_eq line kind.front.now then drop (length kind.front.now) line else []

-- the first word after the front of a line
abbrev pub argument_of : Kind → List ℕ → List ℕ
argument_of kind line = before_first is_gap (rest_of kind line)
