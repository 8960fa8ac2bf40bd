-- Which ends of an interval lie outside of the ticks that are drawn, and outlines that are open there.
use Rattle.std.specs.Prelude.{◌+◌, ◌++◌, ◌||◌, ℕ, Bool, List, [], codes, if◌then◌else◌, nat_lt}
use Rattle.prl_drawing.specs.declared.cuts.Cut.{Cut}
use Rattle.prl_drawing.specs.declared.scales.Scale.{Scale}
use Rattle.prl_drawing.specs.Texts.{attribute_text}

-- whether it begins before the first tick, and whether it goes on behind the last one
abbrev pub cut_of : Scale → ℕ → ℕ → Cut
cut_of scale from to = record { before = nat_lt from scale.from; behind = nat_lt (scale.from + scale.span) to }

-- a side of an outline of dashes and gaps: a gap where it is left out, else a dash between two gaps of no length
abbrev pub side_text : Bool → ℕ → List ℕ
side_text left_out height =
    if left_out then attribute_text (codes " ") height else attribute_text (codes " 0 ") height ++ codes " 0"

-- an outline without the sides at which its rectangle is cut off: clockwise, the side above, the right one, the one below, and the left one
abbrev pub open_text : Cut → ℕ → ℕ → List ℕ
open_text cut width height =
    if cut.before || cut.behind
    then attribute_text (codes "\" stroke-dasharray=\"") width ++ side_text cut.behind height ++ attribute_text (codes " ") width ++ side_text cut.before height
    else []
