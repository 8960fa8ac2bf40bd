-- The status that tells an ending, what was run, and what err says of it.
use Rattle.std.specs.Prelude.{◌≡◌, ◌⊎◌, ℕ, List, Option, Some, None}
use Rattle.prl_io.specs.Views.{SinkView, Appends, AppendsLess}
use Rattle.prl_endings.specs.declared.endings.Ending.{Ending}
use Rattle.prl_endings.specs.declared.endings.Ending.TheVariants as endings
use Rattle.prl_stages.specs.declared.ran.Ran.{Ran}
use Rattle.prl_stages.specs.declared.ran.Ran.TheVariants as runs
use Rattle.prl_stages.specs.declared.stages.Stage.{Stage}
use Rattle.prl_stages.specs.declared.stages.Stage.TheVariants as stages
use Rattle.prl_stages.specs.declared.stages.Stop.{Stop}
use Rattle.prl_stages.specs.declared.stages.Stop.TheVariants as stops

-- the status of a stage that refuses
abbrev pub status_of_stage : Stage → ℕ
status_of_stage (stages.File part) = 7
status_of_stage stages.Grammar = 1
status_of_stage stages.Types = 1
status_of_stage stages.Expansion = 1
status_of_stage stages.Causality = 1
status_of_stage stages.Clocks = 1
status_of_stage stages.Graph = 1
status_of_stage stages.Words = 1
status_of_stage stages.Bodies = 1
status_of_stage stages.Dates = 1
status_of_stage stages.Cells = 1
status_of_stage stages.Horizon = 1
status_of_stage stages.Rows = 9
status_of_stage stages.Schedule = 8
status_of_stage stages.Made = 10
status_of_stage stages.Table = 10
status_of_stage stages.Cores = 10
status_of_stage stages.Placed = 8
status_of_stage stages.Values = 1

abbrev pub status_of_stop : Stop → ℕ
status_of_stop (stops.Unread part) = 3
status_of_stop (stops.Refused stage fault) = status_of_stage stage
status_of_stop stops.Memory = 6

abbrev pub status_of : Ending → ℕ
status_of (endings.Done ran) = 0
status_of endings.Words = 2
status_of (endings.Unwritten ran) = 4
status_of (endings.Overrun plan stopped) = 5
status_of (endings.Stopped stop) = status_of_stop stop

-- what was run
abbrev pub ran_of : Ending → Ran
ran_of (endings.Done ran) = ran
ran_of endings.Words = runs.Not
ran_of (endings.Unwritten ran) = ran
ran_of (endings.Overrun plan stopped) = runs.Stopped stopped
ran_of (endings.Stopped stop) = runs.Not

-- err is as it was; or it grew by the line, or by a front of it where a fault was counted
abbrev pub IsTold : SinkView → SinkView → Option (List ℕ) → Type 0
IsTold old new None = new ≡ old
IsTold old new (Some line) = Appends old new line ⊎ AppendsLess old new line
