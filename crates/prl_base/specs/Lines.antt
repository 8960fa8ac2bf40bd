-- The lines of a text.
use Rattle.std.specs.Prelude.{◌==◌, ℕ, Bool, List, length, Option, Some, None, nat_lt, if◌then◌else◌}
use Rattle.std.specs.List.{slice_split, position_or_len, before_first, after_first}

abbrev pub is_line_feed : ℕ → Bool
is_line_feed b = b == 10

-- the first line of a text that has a line feed, and what stands after that
abbrev pub cut_line : List ℕ → Option (List ℕ × List ℕ)
cut_line text =
    if nat_lt (position_or_len is_line_feed text) (length text) then
    Some (before_first is_line_feed text, after_first is_line_feed text)
    else None

-- the lines that are ended by a line feed, and last of the list what stands after the last line feed
abbrev pub lines_of : List ℕ → List (List ℕ)
lines_of text = slice_split is_line_feed text
