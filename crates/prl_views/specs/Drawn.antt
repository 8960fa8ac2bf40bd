-- The picture of a view of a plan.
use Rattle.std.specs.Prelude.{◌≡◌, ◌++◌, ℕ, List}
use Rattle.std.specs.List.{flat_map}
use Rattle.prl_plan.specs.Plans.{PlanView}
use Rattle.prl_drawing.specs.Windows.{window_text}
use Rattle.prl_shapes.specs.declared.kinds.Shown.{Shown}
use Rattle.prl_shapes.specs.declared.views.View.{View}
use Rattle.prl_shapes.specs.Shapes.{shapes_of}
use Rattle.prl_views.specs.Pieces.{IsPiecesText}

-- the text has the window of each job that is shown once, in one piece, and then each piece of the run or the table
abbrev pub IsPictureOf : PlanView → Shown → View → List ℕ → Type 0
IsPictureOf plan shown view text =
    (below pieces above : List ℕ) × IsPiecesText plan view shown pieces
    × (text ≡ below ++ flat_map window_text (shapes_of plan shown view) ++ pieces ++ above)
