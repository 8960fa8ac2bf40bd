-- The plots that the words ask for.
use Rattle.std.specs.Prelude.{ℕ, List}
use Rattle.prl_io.specs.Views.{FolderView, SinkView}
use Rattle.prl_io.specs.Faults.{AnswersBy, Folder}
use Rattle.prl_drawing.specs.declared.scales.Scale.{Scale}
use Rattle.prl_steps.specs.Flows.{FlowView}
use Rattle.prl_steps.specs.Plots.{ArePlotsOf}
use Rattle.prl_plot.specs.Asked.{AreChosen, IsAsked, IsRange}

-- the plots of flows over the range that the words ask for
abbrev pub IsInRange : List (List ℕ) → List FlowView → List ℕ → Type 0
IsInRange words flows text = (scale : Scale) × IsRange words flows scale × ArePlotsOf scale flows text

-- the plots of the flows that the words ask for and choose
pub record IsPlotted (folder : Folder) (words : List (List ℕ)) (text : List ℕ) : Type 0 where
  pub flows : List FlowView
  pub chosen : List FlowView
  pub asked : IsAsked folder words flows
  pub choice : AreChosen words flows chosen
  pub plots : IsInRange words chosen text

-- what a call answers: its outcome, and how it ends
abbrev pub Answers : List (List ℕ) → FolderView → SinkView → SinkView → SinkView → SinkView → ℕ → Type 0
Answers = AnswersBy IsPlotted
