-- Where a row stands in a picture.
use Rattle.std.specs.Prelude.{◌+◌, ◌*◌, ℕ}
use Rattle.prl_drawing.specs.declared.rows.TheConstants.{ROW, TOP}

-- how far a row is from the top
abbrev pub row_of : ℕ → ℕ
row_of row = TOP + row * ROW
