-- Where the word of a hint stands.
use Rattle.std.specs.Prelude.{ℕ, zero, suc, ◌+◌, ◌-◌, ◌==◌, ◌&&◌, ◌||◌, Bool, false, not, List, [], ◌∷◌, length, drop, take, nat_eq, if◌then◌else◌}
use Rattle.std.specs.List.{ends_with, starts_with, suffix_len}
use Rattle.std.specs.Char.{is_ascii_whitespace}
use Rattle.prl_base.specs.Names.{is_word_byte}

-- the word begins fewer than so many bytes before the place, or there
abbrev pub covers : List ℕ → ℕ → List ℕ → ℕ → Bool
covers text at word zero = false
covers text at word (suc back) = starts_with nat_eq (drop (at - back) text) word || covers text at word back

-- the first byte may stand in a name
abbrev pub begins_in_name : List ℕ → Bool
begins_in_name [] = false
begins_in_name (b ∷ bs) = is_word_byte b

-- the last byte may stand in a name
abbrev pub ends_in_name : List ℕ → Bool
ends_in_name text = begins_in_name (drop (length text - 1) text)

-- the text begins with a whole name
abbrev pub begins_with_name : List ℕ → List ℕ → Bool
begins_with_name text name = starts_with nat_eq text name && not (begins_in_name (drop (length name) text))

-- without the blanks at its end
abbrev pub trimmed : List ℕ → List ℕ
trimmed text = take (length text - suffix_len is_ascii_whitespace text) text

-- the text ends with a whole name, and perhaps blanks behind it
abbrev pub ends_with_name : List ℕ → List ℕ → Bool
ends_with_name text name =
    ends_with nat_eq (trimmed text) name && not (ends_in_name (take (length (trimmed text) - length name) (trimmed text)))

-- where the last parenthesis stands that is open, of those from the place `at` on; else what was found before
abbrev pub last_open : ℕ → ℕ → List ℕ → ℕ
last_open found at [] = found
last_open found at (b ∷ bs) = last_open (if b == 40 then at else (if b == 41 then 0 else found)) (at + 1) bs

-- what stands before it
abbrev pub before_open : List ℕ → List ℕ
before_open text = take (last_open 0 0 text) text
