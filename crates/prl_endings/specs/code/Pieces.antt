-- The pieces of a line.
use Rattle.std.specs.Prelude.{◌++◌, ℕ, List, [], ◌∷◌, codes}
use Rattle.std.specs.List.{concat}
use Rattle.std.specs.Fmt.{decimal, signed_decimal}
use Rattle.prl_endings.specs.declared.pieces.Line.{Line}
use Rattle.prl_endings.specs.declared.pieces.Piece.{Piece}
use Rattle.prl_endings.specs.declared.pieces.Piece.TheVariants as pieces

abbrev pub piece_text : Piece → List ℕ
piece_text (pieces.Words words) = words.now
piece_text (pieces.Text words text) = words.now ++ text.now
piece_text (pieces.Number words number) = words.now ++ decimal number
piece_text (pieces.Signed words number) = words.now ++ signed_decimal number
piece_text pieces.Nothing = []

-- what a line says
abbrev pub line_text : Line → List ℕ
line_text line =
    concat (
    piece_text line.0 ∷ piece_text line.1 ∷ piece_text line.2 ∷ piece_text line.3 ∷ piece_text line.4 ∷ piece_text line.5 ∷ codes "\n" ∷ []
    )
