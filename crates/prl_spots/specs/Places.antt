-- Lines and columns of a text.
use Rattle.std.specs.Prelude.{◌≡◌, ◌<◌, ◌≤◌, ◌+◌, ◌-◌, ◌==◌, ◌&&◌, ℕ, List, [], ◌∷◌, length, take, drop, reverse, nat_le, if◌then◌else◌}
use Rattle.std.specs.List.{before_first, count_by, flat_map, position_or_len}
use Rattle.prl_base.specs.Lines.{is_line_feed}
use Rattle.prl_spots.specs.declared.places.Place.{Place}

-- The place of the byte that stands after these: its line is 1 and the number of line feeds before it, its column is 1 and
-- the number of bytes since the last of them.
abbrev pub place_after : List ℕ → Place
place_after front = record {
  line = 1 + count_by is_line_feed front;
  column = 1 + position_or_len is_line_feed (reverse front);
}

-- the place of the byte at an index of the text, or of its end
abbrev pub place_of : List ℕ → ℕ → Place
place_of text at = place_after (take at text)

-- the least index whose line this is
pub record IsLineStart (text : List ℕ) (line at : ℕ) : Type 0 where
  pub inside : at ≤ length text
  pub here : (place_of text at).line ≡ line
  pub first : (before : ℕ) → before < at → (place_of text before).line < line

-- the bytes of a line before the one at an index, and those from it on
abbrev pub line_front : List ℕ → ℕ → List ℕ
line_front text at = drop (at + 1 - (place_of text at).column) (take at text)

abbrev pub line_rest : List ℕ → ℕ → List ℕ
line_rest text at = before_first is_line_feed (drop at text)

-- what stands below a byte before the mark: a tab below a tab, and below each other character one blank
abbrev pub below : ℕ → List ℕ
below byte = if byte == 9 then 9 ∷ [] else if nat_le 128 byte && nat_le byte 191 then [] else 32 ∷ []

abbrev pub lead : List ℕ → List ℕ
lead front = flat_map below front
