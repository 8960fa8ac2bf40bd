-- The picture of a plan.
use Rattle.std.specs.Prelude.{◌≡◌, ◌<◌, ℕ, List, Some, IfSome, MatchOption, codes, is_some, length}
use Rattle.prl_io.specs.Views.{FolderView, SinkView}
use Rattle.prl_io.specs.Faults.{AnswersBy, Folder}
use Rattle.prl_io.specs.Pairs.{value_of}
use Rattle.prl_base.specs.Decimals.{decimal_of}
use Rattle.prl_plan.specs.Jobs.{task_at}
use Rattle.prl_plan.specs.Plans.{PlanView}
use Rattle.prl_plantext.specs.ReadTexts.{IsTextOf}
use Rattle.prl_shapes.specs.declared.kinds.Shown.{Shown}
use Rattle.prl_shapes.specs.declared.views.View.{View}
use Rattle.prl_picture.specs.Asked.{IsAsked}
use Rattle.prl_picture.specs.Ranges.{IsDefaultEnd, IsRange}
use Rattle.prl_views.specs.Drawn.{IsPictureOf}
use Rattle.prl_shapes.specs.Shown.{IsOfPlan}
use Rattle.prl_picture.specs.Chosen.{all_rows, near_rows}

-- the first tick that the words ask for: 0 where they do not say it
abbrev pub IsFirst : List (List ℕ) → ℕ → Type 0
IsFirst words from = MatchOption (value_of (codes "--from") words) (from ≡ 0) (λ word. decimal_of word ≡ Some from)

-- the tick after the last one that the words ask for
abbrev pub IsLast : PlanView → List ℕ → List (List ℕ) → ℕ → ℕ → Type 0
IsLast plan rows words from until =
    MatchOption (value_of (codes "--until") words) (IsDefaultEnd plan rows (is_some (value_of (codes "--table") words)) from until)
    (λ word. decimal_of word ≡ Some until)

-- the words ask for the ticks of this range, where these tasks have a row
pub record AreAsked (plan : PlanView) (rows : List ℕ) (words : List (List ℕ)) (from until : ℕ) : Type 0 where
  pub begins : IsFirst words from
  pub ends : IsLast plan rows words from until

-- the rows of a task of this name, and of those that edges connect with it
abbrev pub IsNearRows : PlanView → List ℕ → List ℕ → Type 0
IsNearRows plan rows name =
    (i : ℕ) × (i < length plan.graph.tasks) × ((task_at plan.graph i).name ≡ name) × (rows ≡ near_rows plan.graph i)

-- the words ask for these rows: those of all tasks, or of one that they name and its neighbours
abbrev pub AreRows : PlanView → List (List ℕ) → List ℕ → Type 0
AreRows plan words rows = MatchOption (value_of (codes "--task") words) (rows ≡ all_rows plan.graph) (IsNearRows plan rows)

-- the picture of the plan over the range and with the rows that the words ask for, with what they ask for beside the windows
pub record IsDrawn (folder : Folder) (plan : PlanView) (words : List (List ℕ)) (text : List ℕ) : Type 0 where
  pub from : ℕ
  pub until : ℕ
  pub view : View
  pub asked : AreAsked plan view.rows words from until
  pub range : IsRange from until view.scale
  pub rows : AreRows plan words view.rows
  pub shown : Shown
  pub of_plan : IsOfPlan plan shown
  pub shows : IsAsked folder plan words until shown
  pub picture : IsPictureOf plan shown view text

-- the picture of the plan that the file has
abbrev pub IsPicture : Folder → List (List ℕ) → List ℕ → Type 0
IsPicture folder words text =
    (name source : List ℕ) × (value_of (codes "--plan") words ≡ Some name) × IfSome folder (λ f. f name ≡ Some source)
    × ((plan : PlanView) × IsTextOf plan source × IsDrawn folder plan words text)

-- what a call answers: a picture, unless the words ask for what the options mean, and how it ends
abbrev pub Answers : List (List ℕ) → FolderView → SinkView → SinkView → SinkView → SinkView → ℕ → Type 0
Answers = AnswersBy IsPicture
