-- What tokens are, and what stands at the front of a text.
use Rattle.std.specs.Prelude.{◌≡◌, ◌<◌, ◌≤◌, IsTrue, ℕ, zero, suc, ◌+◌, ◌==◌, ◌&&◌, ◌||◌, Bool, false, List, [], ◌∷◌, length, take, drop, codes, Option, Some, None, if◌then◌else◌}
use Rattle.std.specs.Char.{is_ascii_digit}
use Rattle.std.specs.List.{list_any, list_all, position_or_len}
use Rattle.std.specs.Option.{option_map}
use Rattle.prl_base.specs.Names.{is_word}
use Rattle.prl_lex.specs.declared.tokens.Kind.{Kind}
use Rattle.prl_lex.specs.declared.tokens.Kind.TheVariants.{Word, Number, Symbol}
use Rattle.prl_lex.specs.declared.pieces.Piece.{Piece}
use Rattle.prl_lex.specs.declared.pieces.Piece.TheVariants as pieces

-- one or more decimal digits
abbrev pub is_number : List ℕ → Bool
is_number [] = false
is_number (b ∷ bs) = is_ascii_digit b && list_all is_ascii_digit bs

abbrev pub is_one_byte_symbol : ℕ → Bool
is_one_byte_symbol a = list_any (λ s. s == a) (codes "(){},;:=+-*/%<>")

-- `::`, `<=`, `<>`, `>=`, `*^`, `/^`, `~>`
abbrev pub is_two_byte_symbol : ℕ → ℕ → Bool
is_two_byte_symbol a b =
    ((a == 58) && (b == 58)) || ((a == 60) && ((b == 61) || (b == 62))) || ((a == 62) && (b == 61))
    || (((a == 42) || (a == 47)) && (b == 94)) || ((a == 126) && (b == 62))

abbrev pub is_symbol : List ℕ → Bool
is_symbol [] = false
is_symbol (a ∷ []) = is_one_byte_symbol a
is_symbol (a ∷ b ∷ []) = is_two_byte_symbol a b
is_symbol (a ∷ b ∷ c ∷ rest) = false

abbrev pub is_token : List ℕ → Bool
is_token bytes = is_word bytes || is_number bytes || is_symbol bytes

abbrev pub kind_of : List ℕ → Kind
kind_of bytes = if is_word bytes then Word else (if is_number bytes then Number else Symbol)

-- among the fronts of at most n bytes, the length of the longest that is a token; 0 where none is
unfoldable pub longest_up_to : ℕ → List ℕ → ℕ
longest_up_to zero text = 0
longest_up_to (suc n) text = if is_token (take (suc n) text) then suc n else longest_up_to n text

-- the length of the longest token at the front
abbrev pub longest : List ℕ → ℕ
longest text = longest_up_to (length text) text

-- space, tab, carriage return, line feed
abbrev pub is_blank : ℕ → Bool
is_blank b = (b == 32) || (b == 9) || (b == 13) || (b == 10)

-- whether the text begins with the two bytes
abbrev pub begins : ℕ → ℕ → List ℕ → Bool
begins x y [] = false
begins x y (a ∷ []) = false
begins x y (a ∷ b ∷ rest) = (a == x) && (b == y)

-- how many bytes there are up to a line feed or the end
abbrev pub line_len : List ℕ → ℕ
line_len text = position_or_len (λ b. b == 10) text

-- how many bytes there are up to the end of the first `*)`; None where there is none
abbrev pub closing_len : List ℕ → Option ℕ
closing_len [] = None
closing_len (b ∷ bs) = if begins 42 41 (b ∷ bs) then Some 2 else option_map (λ n. n + 1) (closing_len bs)

-- a comment whose closing ends so many bytes after its two opening ones; one that is not closed is no token
abbrev pub closed : Option ℕ → Piece
closed None = pieces.Bad
closed (Some n) = pieces.Gap (n + 2)

abbrev pub token_of_len : List ℕ → ℕ → Piece
token_of_len text zero = pieces.Bad
token_of_len text (suc n) = pieces.Token (kind_of (take (suc n) text)) (suc n)

-- What stands at the front of a text: white space, a comment, the longest token, or nothing of the kind.
abbrev pub piece_of : List ℕ → Piece
piece_of [] = pieces.Bad
piece_of (b ∷ bs) =
    if is_blank b then pieces.Gap 1
    else (if begins 45 45 (b ∷ bs) then pieces.Gap (line_len (b ∷ bs))
    else (if begins 40 42 (b ∷ bs) then closed (closing_len (drop 1 bs))
    else token_of_len (b ∷ bs) (longest (b ∷ bs))))

-- a piece has a byte at least, and lies in the text
abbrev pub FitsPiece : List ℕ → Piece → Type 0
FitsPiece text pieces.Bad = Unit {0}
FitsPiece text (pieces.Gap n) = (0 < n) × (n ≤ length text)
FitsPiece text (pieces.Token kind n) = (0 < n) × (n ≤ length text) × (kind ≡ kind_of (take n text)) × IsTrue (is_token (take n text))
