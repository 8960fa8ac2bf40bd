-- What a call of the command says: how it ends, its line on err, what it leaves in out, and what that tells of the command.
use Rattle.std.specs.Prelude.{◌≡◌, ◌++◌, ◌⊎◌, ◌≤◌, ℕ, List, [], ◌∷◌, Option, Some, None}
use Rattle.prl_io.specs.Views.{FolderView, SinkView, Appends, AppendsLess}
use Rattle.prl_endings.specs.declared.endings.Ending.{Ending}
use Rattle.prl_endings.specs.declared.endings.Ending.TheVariants as endings
use Rattle.prl_endings.specs.declared.endings.Status.{Status}
use Rattle.prl_arguments.specs.declared.arguments.Mode.TheVariants as modes
use Rattle.prl_exec.specs.declared.runs.Stopped.{Stopped}
use Rattle.prl_plan.specs.Plans.{PlanView}
use Rattle.prl_rule.specs.declared.views.Gate.TheVariants as gates
use Rattle.prl_stages.specs.declared.ran.Ran.{Ran}
use Rattle.prl_stages.specs.declared.stages.Stop.{Stop}
use Rattle.prl_stages.specs.Ran.{HasOverrun, IsMeant}
use Rattle.prl_stages.specs.declared.faults.InputFile.{InputFile}
use Rattle.prl_stages.specs.declared.faults.Fault.{Fault}
use Rattle.prl_stages.specs.declared.stages.Stage.{Stage}
use Rattle.prl_stages.specs.declared.stages.Stage.TheVariants as stages
use Rattle.prl_stages.specs.declared.stages.Stop.TheVariants as stops
use Rattle.prl_arguments.specs.declared.arguments.Command.{Command}
use Rattle.prl_arguments.specs.Arguments.{command_of}
use Rattle.prl_stages.specs.Given.{Folder, Given, IsGivenTo, file_of}
use Rattle.prl_stages.specs.Stages.{stages_of, Comes}
use Rattle.prl_calls.specs.Stops.{AsksFor}
use Rattle.prl_endings.specs.Answers.{AsksBy, files_of}
use Rattle.prl_endings.specs.ErrorLines.{line_of}
use Rattle.prl_endings.specs.Statuses.{IsTold, ran_of, status_of}

-- what a call sees of the outside at one moment
pub record Outside : Type 0 where
  pub files : FolderView
  pub out : SinkView
  pub err : SinkView

-- the words ask for a run on two workers or more
pub record AsksForThreads (words : List (List ℕ)) : Type 0 where
  pub command : Command
  pub asked : command_of words ≡ Some command
  pub mode : command.mode ≡ modes.Run
  pub several : 2 ≤ command.workers

-- the command of the words has stages that all hold, and this is the text that it means, with what it has run
pub record Means (words : List (List ℕ)) (told : Option Folder) (text : List ℕ) (ran : Ran) : Type 0 where
  pub command : Command
  pub asked : command_of words ≡ Some command
  pub given : Given
  pub is_given : IsGivenTo told command given
  pub comes : Comes given (stages_of command) None
  pub meant : IsMeant given command text ran

-- the stages of the command of the words all hold, but its run, on several workers and with free clock, has stopped at a read
-- that was overrun
pub record IsOverrun (words : List (List ℕ)) (told : Option Folder) (plan : PlanView) (stopped : Stopped) : Type 0 where
  pub asks : AsksForThreads words
  pub clock : asks.command.clock ≡ gates.Free
  pub given : Given
  pub is_given : IsGivenTo told asks.command given
  pub comes : Comes given (stages_of asks.command) None
  pub overrun : HasOverrun given gates.Free plan stopped

-- the command of the words comes to this stage, which refuses with this fault
pub record IsRefused (words : List (List ℕ)) (told : Option Folder) (stage : Stage) (fault : Fault) : Type 0 where
  pub command : Command
  pub asked : command_of words ≡ Some command
  pub given : Given
  pub is_given : IsGivenTo told command given
  pub comes : Comes given (stages_of command) (Some (stage, fault))

-- the reading of this file of the command failed, and no other; the files before it were read
pub record IsUnread (words : List (List ℕ)) (old new : FolderView) (part : InputFile) : Type 0 where
  pub command : Command
  pub asked : command_of words ≡ Some command
  pub name : List ℕ
  pub named : file_of command part ≡ Some name
  pub failed : new.failed ≡ old.failed ++ (name ∷ [])
  pub given : Given
  pub is_given : IsGivenTo old.folder command given
  pub before : List Stage
  pub after : List Stage
  pub stands : stages_of command ≡ before ++ (stages.File part ∷ after)
  pub hold : Comes given before None

-- no reading failed
abbrev pub NoneFailed : Outside → Outside → Type 0
NoneFailed old new = new.files.failed ≡ old.files.failed

-- why a call ends so, and what it leaves in out
abbrev pub Ends : List (List ℕ) → Outside → Outside → Ending → Type 0
-- the whole text is in out
Ends words old new (endings.Done ran) =
    (text : List ℕ) × Means words old.files.folder text ran × Appends old.out new.out text × NoneFailed old new
-- a front of the text is in out, and a fault was counted
Ends words old new (endings.Unwritten ran) =
    (text : List ℕ) × Means words old.files.folder text ran × AppendsLess old.out new.out text × NoneFailed old new
-- the words are no command
Ends words old new endings.Words = (command_of words ≡ None) × (new.out ≡ old.out) × NoneFailed old new
-- the reading of this file failed
Ends words old new (endings.Stopped (stops.Unread part)) =
    IsUnread words old.files new.files part × (new.out ≡ old.out)
-- a stage refuses
Ends words old new (endings.Stopped (stops.Refused stage fault)) =
    IsRefused words old.files.folder stage fault × (new.out ≡ old.out) × NoneFailed old new
-- a read was overrun
Ends words old new (endings.Overrun plan stopped) =
    IsOverrun words old.files.folder plan stopped × (new.out ≡ old.out) × NoneFailed old new
-- memory ran out, which may come whatever the words are
Ends words old new (endings.Stopped stops.Memory) = (new.out ≡ old.out) × NoneFailed old new

-- the ending is that of a command that comes to this
abbrev pub IsEndOf : Option (Stage × Fault) → Ending → Type 0
IsEndOf None ending = (ran : Ran) × (ending ≡ endings.Done ran)
IsEndOf (Some end) ending = ending ≡ endings.Stopped (stops.Refused end.0 end.1)

-- the command may be overrun, and it is
abbrev pub IsOverrunOf : Command → Ending → Type 0
IsOverrunOf c ending =
    (c.mode ≡ modes.Run) × (2 ≤ c.workers) × (c.clock ≡ gates.Free) × (plan : PlanView) × (stopped : Stopped) × (ending ≡ endings.Overrun plan stopped)

-- no reading failed and no fault was counted that could keep a command from this end
abbrev pub NoFault : Outside → Outside → Option (Stage × Fault) → Type 0
NoFault old new None = NoneFailed old new × (new.out.faults ≡ old.out.faults)
NoFault old new (Some end) = NoneFailed old new

-- What a command comes to over known files is how the call ends, where nothing failed; but memory may run out, and a run on
-- several workers with free clock may be overrun.
abbrev pub IsExact : List (List ℕ) → Outside → Outside → Ending → Type 0
IsExact words old new ending =
    (folder : Folder) → old.files.folder ≡ Some folder → (command : Command) → command_of words ≡ Some command →
    (given : Given) → IsGivenTo (Some folder) command given → (end : Option (Stage × Fault)) →
    Comes given (stages_of command) end → NoFault old new end →
    IsEndOf end ending ⊎ ((ending ≡ endings.Stopped stops.Memory) ⊎ ((end ≡ None) × IsOverrunOf command ending))

-- which readings a command has asked for, by how its call ends: those of all files of its mode, each once and in order; or, where a file stops
-- it, those up to this one
abbrev pub ReadsBy : Command → FolderView → FolderView → Ending → Type 0
ReadsBy c old new (endings.Stopped stop) = AsksBy c.mode old new c stop
ReadsBy c old new ending = AsksFor old new c (files_of c.mode)

-- the same of the command of the words; words that are no command ask for none
pub record HasRead (words : List (List ℕ)) (old new : FolderView) (ending : Ending) : Type 0 where
  pub none : command_of words ≡ None → new.asked ≡ old.asked
  pub some : (c : Command) → command_of words ≡ Some c → ReadsBy c old new ending

-- All that a call of the command with these words says, between two moments. `Done` is status 0, and each other ending
-- has another status.
pub record Answers (words : List (List ℕ)) (old new : Outside) (status : Status) : Type 0 where
  pub ending : Ending
  pub code : status.code ≡ status_of ending
  pub ran : status.ran ≡ ran_of ending
  pub ends : Ends words old new ending
  pub told : IsTold old.err new.err (line_of (command_of words) ending)
  pub exact : IsExact words old new ending
  pub read : HasRead words old.files new.files ending
  pub folder : new.files.folder ≡ old.files.folder
