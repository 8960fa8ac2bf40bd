-- Words that come in pairs, an option and its value.
use Rattle.std.specs.Prelude.{◌==◌, ◌&&◌, ◌||◌, ℕ, Bool, true, false, not, List, [], ◌∷◌, Option, Some, None, codes, is_some, if◌then◌else◌}
use Rattle.std.specs.Str.{bytes_eq}

-- the word after the first option of this name
abbrev pub value_of : List ℕ → List (List ℕ) → Option (List ℕ)
value_of option [] = None
value_of option (word ∷ []) = None
value_of option (word ∷ value ∷ rest) = if bytes_eq word option then Some value else value_of option rest

abbrev pub is_option : List ℕ → List (List ℕ) → Bool
is_option word [] = false
is_option word (option ∷ options) = bytes_eq option word || is_option word options

-- a value has some bytes, of which the first is no `-`
abbrev pub is_value : List ℕ → Bool
is_value [] = false
is_value (b ∷ bs) = not (b == 45)

-- a word is one of the options, which the rest does not have, and the next one has the form of a value
abbrev pub is_pair : List (List ℕ) → List ℕ → List ℕ → List (List ℕ) → Bool
is_pair options word value rest = is_option word options && is_value value && not (is_some (value_of word rest))

-- the words are pairs of one of the options and its value, no option twice
abbrev pub are_pairs : List (List ℕ) → List (List ℕ) → Bool
are_pairs options [] = true
are_pairs options (word ∷ []) = false
are_pairs options (word ∷ value ∷ rest) = is_pair options word value rest && are_pairs options rest

-- the words ask for what the options mean
abbrev pub asks_help : List (List ℕ) → Bool
asks_help [] = false
asks_help (word ∷ []) = bytes_eq word (codes "--help")
asks_help (word ∷ other ∷ words) = false
