-- The options of a command line.
use Rattle.std.specs.Prelude.{◌&&◌, ◌||◌, ◌++◌, ℕ, Bool, false, List, [], ◌∷◌, Option, Some, None, codes, if◌then◌else◌, is_some, not}
use Rattle.std.specs.Str.{bytes_eq}
use Rattle.prl_io.specs.Pairs.{are_pairs, value_of}

-- the word that asks for JSON stands where an option may
abbrev pub is_json : List ℕ → Bool
is_json word = bytes_eq word (codes "--json")

abbrev pub asks_json : List (List ℕ) → Bool
asks_json [] = false
asks_json (word ∷ []) = is_json word
asks_json (word ∷ value ∷ rest) = is_json word || asks_json rest

-- the words without the first such one
abbrev pub other_words : List (List ℕ) → List (List ℕ)
other_words [] = []
other_words (word ∷ []) = if is_json word then [] else word ∷ []
other_words (word ∷ value ∷ rest) = if is_json word then value ∷ rest else word ∷ value ∷ other_words rest

-- the word that asks for what holds for ever has no value, either
abbrev pub is_for_ever : List ℕ → Bool
is_for_ever word = bytes_eq word (codes "--for-ever")

-- a word that stands where an option may is followed by a value
abbrev pub has_value : List ℕ → Bool
has_value word = not (is_json word || is_for_ever word)

-- the words with a value behind each that asks for ever where an option may stand; where the first of them is a value itself, or is not
abbrev pub with_values : Bool → List (List ℕ) → List (List ℕ)
with_values value [] = []
with_values value (word ∷ rest) =
    (if not value && is_for_ever word then word ∷ codes "yes" ∷ [] else word ∷ []) ++ with_values (not value && has_value word) rest

-- the words as pairs of an option and its value
abbrev pub pairs_of : List (List ℕ) → List (List ℕ)
pairs_of words = other_words (with_values false words)

-- the options that have a value then
abbrev pub options : List (List ℕ)
options =
    codes "--plan" ∷ codes "--sensor" ∷ codes "--actuator" ∷ codes "--until" ∷ codes "--chain" ∷ codes "--skew" ∷ codes "--limit" ∷ codes "--for-ever" ∷ []

abbrev pub has : List ℕ → List (List ℕ) → Bool
has option words = is_some (value_of option words)

-- beside a chain nothing else is asked for, and beside a skew the actuator alone; and one run is told, up to a tick or for ever
abbrev pub are_apart : List (List ℕ) → Bool
are_apart words =
    not (has (codes "--chain") words && (has (codes "--skew") words || has (codes "--sensor") words || has (codes "--actuator") words || has (codes "--until") words))
    && not (has (codes "--skew") words && (has (codes "--sensor") words || has (codes "--until") words))
    && not (has (codes "--for-ever") words && (has (codes "--chain") words || has (codes "--skew") words || has (codes "--until") words))

-- the words ask for something of a plan: pairs of an option and its value, no option twice, that go together and name a plan
abbrev pub is_command : List (List ℕ) → Bool
is_command words = are_pairs options words && are_apart words && has (codes "--plan") words

-- the name of the plan's file; empty where the words name none
abbrev pub some_or_none : Option (List ℕ) → List ℕ
some_or_none None = []
some_or_none (Some name) = name

abbrev pub file_of : List (List ℕ) → List ℕ
file_of words = some_or_none (value_of (codes "--plan") words)
