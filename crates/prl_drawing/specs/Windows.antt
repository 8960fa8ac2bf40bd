-- The windows of jobs as SVG.
use Rattle.std.specs.Prelude.{◌+◌, ◌-◌, ◌%◌, ◌++◌, ℕ, List, codes}
use Rattle.prl_drawing.specs.declared.shapes.Shape.{Shape}
use Rattle.prl_drawing.specs.declared.rows.TheConstants.{COLOURS, GAP}
use Rattle.prl_drawing.specs.declared.window_texts.TheConstants.{HIGH}
use Rattle.prl_drawing.specs.Boxes.{cut_text}
use Rattle.prl_drawing.specs.Rows.{row_of}
use Rattle.prl_drawing.specs.Texts.{attribute_text}

-- a rectangle in its row, in the colour of its task, from the encoded release to the encoded deadline, open where it is cut off
unfoldable pub window_text : Shape → List ℕ
window_text shape =
    attribute_text (codes "<rect class=\"w t") (shape.task % COLOURS)
    ++ cut_text shape.cut shape.left (row_of shape.row + GAP) (shape.right - shape.left) HIGH
