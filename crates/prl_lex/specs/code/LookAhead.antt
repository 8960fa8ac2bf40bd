-- One token of look-ahead decides.
use Rattle.std.specs.Prelude.{◌≡◌, ◌&&◌, ◌||◌, not, ℕ, Bool, true, false, List, [], ◌∷◌}
use Rattle.prl_lex.specs.Productions.{Grammar, token, give, action, both, either, many, placed, inner}
use Rattle.prl_lex.specs.code.Shapes.{shape}
use Rattle.prl_lex.specs.code.Readers.{is_in}
use Rattle.prl_lex.specs.code.Reads.{Shape}

-- no class is in both lists
abbrev pub disjoint : List ℕ → List ℕ → Bool
disjoint [] ls = true
disjoint (k ∷ ks) ls = not (is_in k ls) && disjoint ks ls

-- one token decides at each choice and repetition of the grammar
abbrev pub is_apart : {R A : Type 0} → Shape → Grammar R A → Bool
is_apart i (token class) = true
is_apart i (give x) = true
is_apart i (action g f) = is_apart i g
is_apart i (both g h) = is_apart i g && is_apart i h && disjoint (shape i g).more (shape i h).first
is_apart i (either g h) = is_apart i g && is_apart i h && (not (shape i g).nullable && disjoint (shape i g).first (shape i h).first)
is_apart i (many g) = is_apart i g && not (shape i g).nullable && disjoint (shape i g).more (shape i g).first
is_apart i (placed g) = is_apart i g && not (shape i g).nullable
is_apart i inner = true

abbrev pub IsApart : {R A : Type 0} → Shape → Grammar R A → Type 0
IsApart i g = is_apart i g ≡ true

-- a token stands before what is in parentheses
abbrev pub is_guarded : {R A : Type 0} → Shape → Grammar R A → Bool
is_guarded i (token class) = true
is_guarded i (give x) = true
is_guarded i (action g f) = is_guarded i g
is_guarded i (both g h) = is_guarded i g && (not (shape i g).nullable || is_guarded i h)
is_guarded i (either g h) = is_guarded i g && is_guarded i h
is_guarded i (many g) = is_guarded i g
is_guarded i (placed g) = is_guarded i g
is_guarded i inner = false

-- there is a text without parentheses: always the first of two, and none of many
abbrev pub is_founded : {R A : Type 0} → Grammar R A → Bool
is_founded (token class) = true
is_founded (give x) = true
is_founded (action g f) = is_founded g
is_founded (both g h) = is_founded g && is_founded h
is_founded (either g h) = is_founded g
is_founded (many g) = true
is_founded (placed g) = is_founded g
is_founded inner = false
