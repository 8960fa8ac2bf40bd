-- Rectangles and lines in the colours of tasks, and what stands over the ticks of an interval.
use Rattle.std.specs.Prelude.{◌-◌, ◌%◌, ◌++◌, ℕ, List, codes, if◌then◌else◌, nat_lt}
use Rattle.prl_drawing.specs.declared.boxes.TheConstants.{LEAST, OUTLINED}
use Rattle.prl_drawing.specs.declared.cuts.Cut.{Cut}
use Rattle.prl_drawing.specs.declared.rows.TheConstants.{COLOURS}
use Rattle.prl_drawing.specs.declared.scales.Scale.{Scale}
use Rattle.prl_drawing.specs.Cuts.{cut_of, open_text}
use Rattle.prl_drawing.specs.Texts.{attribute_text}
use Rattle.prl_drawing.specs.Scales.{x_within}

-- where a rectangle stands, and how wide and high it is
abbrev pub sides_text : ℕ → ℕ → ℕ → ℕ → List ℕ
sides_text left top width height =
    attribute_text (codes "\" x=\"") left
    ++ attribute_text (codes "\" y=\"") top
    ++ attribute_text (codes "\" width=\"") width
    ++ attribute_text (codes "\" height=\"") height

-- the rest of a rectangle
abbrev pub place_text : ℕ → ℕ → ℕ → ℕ → List ℕ
place_text left top width height = sides_text left top width height ++ codes "\"/>\n"

-- a rectangle in the colour of a task
abbrev pub coloured_text : ℕ → ℕ → ℕ → ℕ → ℕ → List ℕ
coloured_text task left top width height =
    attribute_text (codes "<rect class=\"s t") (task % COLOURS) ++ place_text left top width height

-- the rest of a rectangle whose outline is open where it is cut off
unfoldable pub cut_text : Cut → ℕ → ℕ → ℕ → ℕ → List ℕ
cut_text cut left top width height = sides_text left top width height ++ open_text cut width height ++ codes "\"/>\n"

-- the rest of a line downwards
abbrev pub down_text : ℕ → ℕ → ℕ → List ℕ
down_text x top height =
    attribute_text (codes "\" d=\"M") x ++ attribute_text (codes " ") top ++ attribute_text (codes "v") height ++ codes "\"/>\n"

-- a mark of a task at an instant
abbrev pub mark_text : ℕ → ℕ → ℕ → ℕ → List ℕ
mark_text task x top height = attribute_text (codes "<path class=\"m e") (task % COLOURS) ++ down_text x top height

-- how what stands over ticks begins, by how wide it is: a line where that is less than can be seen, else a rectangle, with an outline
-- where there is room for one
abbrev pub front_text : ℕ → List ℕ
front_text width =
    if nat_lt width LEAST then codes "<path class=\"i e"
    else if nat_lt width OUTLINED then codes "<rect class=\"r t"
    else codes "<rect class=\"s t"

-- over the ticks of an interval, in the colour of a task: a rectangle as wide as the ticks are, open where it is cut off; where that is
-- less than can be seen, a line where they begin
abbrev pub box_text : Scale → ℕ → ℕ → ℕ → ℕ → ℕ → List ℕ
box_text scale task from to top height =
    let left = x_within scale from in
    let width = x_within scale to - left in
    attribute_text (front_text width) (task % COLOURS)
    ++ (if nat_lt width LEAST then down_text left top height else cut_text (cut_of scale from to) left top width height)
