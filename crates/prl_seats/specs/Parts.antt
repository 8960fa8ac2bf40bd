-- Which parts two views share.
use Rattle.std.specs.Prelude.{◌&&◌, ◌||◌, List, [], ◌∷◌, Bool, true, false, Option, Some, None}
use Rattle.prl_rule.specs.declared.views.ClockPart.{ClockPart}
use Rattle.prl_rule.specs.declared.views.TaskPart.{TaskPart}
use Rattle.prl_rule.specs.declared.views.View.{View}

abbrev pub has_part : Option TaskPart → Bool
has_part (Some p) = true
has_part None = false

abbrev pub has_clock : Option ClockPart → Bool
has_clock (Some r) = true
has_clock None = false

-- some task has a part in both lists
abbrev pub overlap : List (Option TaskPart) → List (Option TaskPart) → Bool
overlap [] others = false
overlap (p ∷ parts) [] = false
overlap (p ∷ parts) (q ∷ others) = (has_part p && has_part q) || overlap parts others

-- some part stands in both views
abbrev pub share_part : View → View → Bool
share_part view other = overlap view.tasks other.tasks || (has_clock view.clock && has_clock other.clock)
