-- The options of a command line.
use Rattle.std.specs.Prelude.{◌&&◌, ◌||◌, ℕ, Bool, false, List, [], ◌∷◌, Option, Some, None, codes, if◌then◌else◌, is_some}
use Rattle.std.specs.Str.{bytes_eq}
use Rattle.prl_io.specs.Pairs.{are_pairs, value_of}

-- the word that asks for JSON stands where an option may
abbrev pub is_json : List ℕ → Bool
is_json word = bytes_eq word (codes "--json")

abbrev pub asks_json : List (List ℕ) → Bool
asks_json [] = false
asks_json (word ∷ []) = is_json word
asks_json (word ∷ value ∷ rest) = is_json word || asks_json rest

-- the words without the first such one
abbrev pub other_words : List (List ℕ) → List (List ℕ)
other_words [] = []
other_words (word ∷ []) = if is_json word then [] else word ∷ []
other_words (word ∷ value ∷ rest) = if is_json word then value ∷ rest else word ∷ value ∷ other_words rest

-- the options that have a value
abbrev pub options : List (List ℕ)
options = codes "--plan" ∷ codes "--table" ∷ []

abbrev pub has : List ℕ → List (List ℕ) → Bool
has option words = is_some (value_of option words)

-- the words ask for the frame of a table: pairs of an option and its value, no option twice, that name a plan and a table
abbrev pub is_command : List (List ℕ) → Bool
is_command words = are_pairs options words && (has (codes "--plan") words && has (codes "--table") words)

-- the name of the file that an option has; empty where the words have it not
abbrev pub some_or_none : Option (List ℕ) → List ℕ
some_or_none None = []
some_or_none (Some name) = name

abbrev pub file_of : List ℕ → List (List ℕ) → List ℕ
file_of option words = some_or_none (value_of option words)
