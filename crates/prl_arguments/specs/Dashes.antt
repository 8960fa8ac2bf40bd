-- The words of a command that stand after `--`.
use Rattle.std.specs.Prelude.{ℕ, Bool, List, [], ◌∷◌, Option, Some, None, take, codes, if◌then◌else◌}
use Rattle.std.specs.List.{position_or_len}
use Rattle.std.specs.Str.{bytes_eq}

abbrev pub are_dashes : List ℕ → Bool
are_dashes word = bytes_eq word (codes "--")

-- the words before the first `--`
abbrev pub before_dashes : List (List ℕ) → List (List ℕ)
before_dashes words = take (position_or_len are_dashes words) words

-- the words from it on, where it is there: it stands in the place of the program's name
abbrev pub from_dashes : List (List ℕ) → Option (List (List ℕ))
from_dashes [] = None
from_dashes (word ∷ words) = if are_dashes word then Some (word ∷ words) else from_dashes words
