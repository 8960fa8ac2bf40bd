-- Bytes as a terminal may show them: characters in UTF-8 as they are, but no control character, and each other byte as \xNN. Where the bytes are lines,
-- tabs and line feeds stay.
use Rattle.std.specs.Prelude.{◌==◌, ◌&&◌, ◌||◌, ◌+◌, ◌-◌, ◌/◌, ◌%◌, ℕ, zero, suc, Bool, false, List, [], ◌∷◌, ◌++◌, nat_le, nat_lt, if◌then◌else◌}

abbrev pub between : ℕ → ℕ → ℕ → Bool
between low high byte = nat_le low byte && nat_le byte high

-- a byte that goes on a character
abbrev pub goes_on : ℕ → Bool
goes_on byte = between 128 191 byte

-- The second byte that may follow a first: no form longer than it need be, no surrogate, nothing above 10FFFF, and no control character.
abbrev pub may_follow : ℕ → ℕ → Bool
may_follow first second =
    if (first == 194) || (first == 224) then between 160 191 second
    else if first == 237 then between 128 159 second
    else if first == 240 then between 144 191 second
    else if first == 244 then between 128 143 second
    else goes_on second

abbrev pub is_tab_or_line : ℕ → Bool
is_tab_or_line byte = (byte == 9) || (byte == 10)

-- a character of one byte begins the text, which is none of control; in lines it may be a tab or a line feed
abbrev pub is_plain : Bool → List ℕ → Bool
is_plain lines [] = false
is_plain lines (a ∷ rest) = (lines && is_tab_or_line a) || between 32 126 a

-- of two, of three, of four bytes
abbrev pub is_two : List ℕ → Bool
is_two [] = false
is_two (a ∷ []) = false
is_two (a ∷ b ∷ rest) = between 194 223 a && may_follow a b

abbrev pub is_three : List ℕ → Bool
is_three [] = false
is_three (a ∷ []) = false
is_three (a ∷ b ∷ []) = false
is_three (a ∷ b ∷ c ∷ rest) = between 224 239 a && may_follow a b && goes_on c

abbrev pub is_four : List ℕ → Bool
is_four [] = false
is_four (a ∷ []) = false
is_four (a ∷ b ∷ []) = false
is_four (a ∷ b ∷ c ∷ []) = false
is_four (a ∷ b ∷ c ∷ d ∷ rest) = between 240 244 a && may_follow a b && goes_on c && goes_on d

-- how many bytes the character has that begins the text; 0 where none does
abbrev pub character_len : Bool → List ℕ → ℕ
character_len lines text = if is_plain lines text then 1 else if is_two text then 2 else if is_three text then 3 else if is_four text then 4 else 0

abbrev pub hex_digit : ℕ → ℕ
hex_digit n = if nat_lt n 10 then 48 + n else 65 + (n - 10)

-- \xNN
abbrev pub escape : ℕ → List ℕ
escape byte = 92 ∷ 120 ∷ hex_digit (byte / 16) ∷ hex_digit (byte % 16) ∷ []

-- a byte where a character of so many bytes begins
abbrev pub first_text : ℕ → ℕ → List ℕ
first_text zero byte = escape byte
first_text (suc more) byte = byte ∷ []

-- the text, whose first bytes, so many, are of a character that began before
unfoldable pub shown_from : Bool → ℕ → List ℕ → List ℕ
shown_from lines left [] = []
shown_from lines (suc left) (byte ∷ rest) = byte ∷ shown_from lines left rest
shown_from lines zero (byte ∷ rest) =
    first_text (character_len lines (byte ∷ rest)) byte ++ shown_from lines (character_len lines (byte ∷ rest) - 1) rest

abbrev pub shown : Bool → List ℕ → List ℕ
shown lines text = shown_from lines 0 text
