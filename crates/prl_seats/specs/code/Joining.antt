-- How the parts of two seats come together in one.
use Rattle.std.specs.Prelude.{◌≡◌, ℕ, [], ◌∷◌, if◌then◌else◌, Some, None}
use mathlib.Core.Option.{some}
use lib.ListN.{get_elem?}
use Rattle.prl_rule.specs.declared.views.TaskPart.{TaskPart}
use Rattle.prl_rule.specs.declared.views.View.{View}
use Rattle.prl_rule.specs.Rule.{first_part}
use Rattle.prl_rule.specs.Steps.{joined}
use Rattle.prl_seats.specs.Parts.{share_part}

-- a view that the rule refuses, since it has a part and no constants
abbrev pub refused : View
refused = record { constants = None; tasks = Some (first_part []) ∷ []; clock = None }

-- Two views of one table share no part. That they do not is known after the join, since the rule refuses what comes of two that do.
abbrev pub joined_apart : View → View → View
joined_apart view other = if share_part view other then refused else joined view other

-- a view that has a task's part is not spent
abbrev pub IsLive : View → Type 0
IsLive view = (i : ℕ) (p : TaskPart) → get_elem? view.tasks i ≡ some (Some p) → view.constants ≡ None → ⊥
