-- Texts as HTML shows them.
use Rattle.std.specs.Prelude.{◌==◌, ◌∷◌, [], ℕ, List, codes, if◌then◌else◌}
use Rattle.std.specs.List.{flat_map}

-- a byte: those that begin tags, names and values are written by their names
abbrev pub escape : ℕ → List ℕ
escape byte =
    if byte == 38 then codes "&amp;"
    else if byte == 60 then codes "&lt;"
    else if byte == 62 then codes "&gt;"
    else if byte == 34 then codes "&quot;"
    else byte ∷ []

abbrev pub escaped : List ℕ → List ℕ
escaped text = flat_map escape text
