-- How the longest token is found: its first byte, for a symbol its first two, tells its kind.
use Rattle.std.specs.Prelude.{ℕ, ◌+◌, List, [], ◌∷◌, if◌then◌else◌}
use Rattle.std.specs.Char.{is_ascii_digit}
use Rattle.std.specs.List.{prefix_len}
use Rattle.prl_base.specs.Names.{is_word_start, is_word_byte}
use Rattle.prl_lex.specs.declared.tokens.Kind.TheVariants.{Word, Number, Symbol}
use Rattle.prl_lex.specs.declared.pieces.Piece.{Piece}
use Rattle.prl_lex.specs.declared.pieces.Piece.TheVariants as pieces
use Rattle.prl_lex.specs.Tokens.{is_one_byte_symbol, is_two_byte_symbol}

abbrev pub one_byte_symbol : ℕ → Piece
one_byte_symbol a = if is_one_byte_symbol a then pieces.Token Symbol 1 else pieces.Bad

abbrev pub symbol_by_bytes : ℕ → List ℕ → Piece
symbol_by_bytes a [] = one_byte_symbol a
symbol_by_bytes a (b ∷ bs) = if is_two_byte_symbol a b then pieces.Token Symbol 2 else one_byte_symbol a

abbrev pub token_by_first : List ℕ → Piece
token_by_first [] = pieces.Bad
token_by_first (b ∷ bs) =
    if is_word_start b then pieces.Token Word (prefix_len is_word_byte bs + 1)
    else (if is_ascii_digit b then pieces.Token Number (prefix_len is_ascii_digit bs + 1)
    else symbol_by_bytes b bs)
