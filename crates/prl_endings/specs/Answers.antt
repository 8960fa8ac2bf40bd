-- What comes of a command before its text is written.
use Rattle.std.specs.Prelude.{◌≡◌, ◌++◌, ℕ, List, [], ◌∷◌, Option, Some, None}
use Rattle.prl_io.specs.Views.{FolderView}
use Rattle.prl_arguments.specs.declared.arguments.Command.{Command}
use Rattle.prl_arguments.specs.declared.arguments.Mode.{Mode}
use Rattle.prl_arguments.specs.declared.arguments.Mode.TheVariants as modes
use Rattle.prl_calls.specs.Stops.{AsksFor, AsksTo, IsReached}
use Rattle.prl_executions.specs.declared.running.Outcome.{Outcome}
use Rattle.prl_executions.specs.declared.running.Outcome.TheVariants as outcomes
use Rattle.prl_stages.specs.declared.stages.Stage.TheVariants as stages
use Rattle.prl_stages.specs.declared.stages.Stop.{Stop}
use Rattle.prl_stages.specs.declared.stages.Stop.TheVariants as stops
use Rattle.prl_stages.specs.declared.faults.InputFile.{InputFile}
use Rattle.prl_stages.specs.Given.{Folder, Given, IsGivenTo, all_files, file_of}
use Rattle.prl_stages.specs.declared.ran.Ran.{Ran}
use Rattle.prl_stages.specs.Ran.{HasOverrun, IsMeant}
use Rattle.prl_stages.specs.Stages.{Comes, stages_of}

-- a command comes to no refusal, and it means this text with what it has run
abbrev pub IsAnswer : Option Folder → Command → List ℕ → Ran → Type 0
IsAnswer told c text ran =
    (g : Given) × IsGivenTo told c g × Comes g (stages_of c) None × IsMeant g c text ran

-- the files that a mode reads
abbrev pub files_of : Mode → List InputFile
files_of modes.Generate = []
files_of mode = all_files

-- which readings were asked for where a command of a mode stops
abbrev pub AsksBy : Mode → FolderView → FolderView → Command → Stop → Type 0
AsksBy modes.Generate old new c stop = AsksFor old new c []
AsksBy mode old new c stop = AsksTo old new c stop

-- a command comes to a refusal, the reading of the file that it came to failed, or memory ran out
abbrev pub IsAnswerStop : FolderView → FolderView → Command → Stop → Type 0
IsAnswerStop old new c (stops.Unread part) =
    ((g : Given) × IsGivenTo old.folder c g × IsReached g (stages_of c) (stages.File part))
    × (name : List ℕ) × (file_of c part ≡ Some name) × (new.failed ≡ old.failed ++ (name ∷ []))
IsAnswerStop old new c (stops.Refused stage fault) =
    ((g : Given) × IsGivenTo old.folder c g × Comes g (stages_of c) (Some (stage, fault))) × (new.failed ≡ old.failed)
IsAnswerStop old new c stops.Memory = new.failed ≡ old.failed

-- a command comes to no refusal: it means a text with what several threads have run, or their run has stopped at a read that
-- was overrun
abbrev pub IsAnswerOf : Option Folder → Command → Outcome → Type 0
IsAnswerOf told c (outcomes.Ended text ran) = IsAnswer told c text.items ran
IsAnswerOf told c (outcomes.Overrun plan stopped) =
    (g : Given) × IsGivenTo told c g × Comes g (stages_of c) None × HasOverrun g c.clock plan stopped
