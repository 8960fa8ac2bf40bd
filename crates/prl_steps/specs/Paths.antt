-- The line of a flow as SVG.
use Rattle.std.specs.Prelude.{◌+◌, ◌%◌, ◌==◌, ◌++◌, ℕ, List, [], ◌∷◌, Option, Some, None, codes, if◌then◌else◌}
use Rattle.std.specs.List.{flat_map}
use Rattle.prl_base.specs.declared.values.Ty.{Ty}
use Rattle.prl_base.specs.declared.values.Ty.TheVariants as types
use Rattle.prl_drawing.specs.declared.rows.TheConstants.{COLOURS}
use Rattle.prl_drawing.specs.declared.scales.Scale.{Scale}
use Rattle.prl_drawing.specs.declared.scales.TheConstants.{LEFT, WIDTH}
use Rattle.prl_drawing.specs.Scales.{x_within}
use Rattle.prl_drawing.specs.Texts.{attribute_text}
use Rattle.prl_steps.specs.declared.bars.Bar.{Bar}
use Rattle.prl_steps.specs.declared.panes.Pane.{Pane}
use Rattle.prl_steps.specs.declared.samples.Step.{Step}
use Rattle.prl_steps.specs.Bars.{bars_of}
use Rattle.prl_steps.specs.Panes.{y_of}

-- where several steps begin in a column, the line goes over all their levels there
abbrev pub reach_text : Pane → Bar → List ℕ
reach_text pane bar =
    if bar.low == bar.high then []
    else attribute_text (codes "V") (y_of pane bar.high) ++ attribute_text (codes "V") (y_of pane bar.low)

-- the line holds its level up to the bar, and goes on at the bar's last level
abbrev pub bar_text : Pane → Option Bar → List ℕ
bar_text pane None = []
bar_text pane (Some bar) =
    attribute_text (codes "H") bar.x ++ reach_text pane bar ++ attribute_text (codes "V") (y_of pane bar.last)

abbrev pub move_text : ℕ → ℕ → List ℕ
move_text x y = attribute_text (codes "\" d=\"M") x ++ attribute_text (codes " ") y

-- a line begins at the first step; a band, which is filled, at the bottom below it
abbrev pub opening_text : Scale → Pane → Ty → ℕ → Step → List ℕ
opening_text scale pane types.Int colour step =
    attribute_text (codes "<path class=\"f e") (colour % COLOURS) ++ move_text (x_within scale step.from) (y_of pane step.level)
opening_text scale pane types.Bool colour step =
    attribute_text (codes "<path class=\"q t") (colour % COLOURS) ++ move_text (x_within scale step.from) pane.bottom

-- the last level holds up to the end of the range; a band ends at the bottom
abbrev pub closing_text : Pane → Ty → List ℕ
closing_text pane types.Int = attribute_text (codes "H") (LEFT + WIDTH) ++ codes "\"/>\n"
closing_text pane types.Bool =
    attribute_text (codes "H") (LEFT + WIDTH) ++ attribute_text (codes "V") pane.bottom ++ codes "z\"/>\n"

-- the line of some steps: nothing where there are none
abbrev pub path_text : Scale → Pane → Ty → ℕ → List Step → List ℕ
path_text scale pane ty colour [] = []
path_text scale pane ty colour (step ∷ steps) =
    opening_text scale pane ty colour step ++ flat_map (bar_text pane) (bars_of scale (step ∷ steps)) ++ closing_text pane ty
