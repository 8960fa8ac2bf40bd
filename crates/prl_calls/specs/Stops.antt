-- What the stages are asked about, and what their stops say.
use Rattle.std.specs.Prelude.{◌≡◌, ◌≤◌, ◌++◌, ◌⊎◌, ℕ, Bool, true, false, List, [], ◌∷◌, Option, Some, None, is_some, length, take, Result, Ok, Err}
use Rattle.prl_io.specs.Views.{FolderView}
use Rattle.prl_calls.specs.declared.reading.Request.{Request}
use Rattle.prl_calls.specs.declared.reading.Texts.{Texts}
use Rattle.prl_stages.specs.declared.faults.Fault.{Fault}
use Rattle.prl_stages.specs.declared.stages.Stage.{Stage}
use Rattle.prl_stages.specs.declared.stages.Stop.{Stop}
use Rattle.prl_stages.specs.declared.stages.Stop.TheVariants as stops
use Rattle.prl_stages.specs.declared.sizes.TheConstants.{MAX_BODIES}
use Rattle.prl_arguments.specs.declared.arguments.Command.{Command}
use Rattle.prl_stages.specs.declared.faults.InputFile.{InputFile}
use Rattle.prl_stages.specs.declared.stages.Stage.TheVariants as stages
use Rattle.prl_stages.specs.Given.{Folder, Given, IsContent, IsGiven, all_files, file_of, names_of, up_to}
use Rattle.prl_stages.specs.Stages.{Holds, Refuses, Comes, files}

-- what the texts give, where a schedule is named or not, with this node and date
abbrev pub texts_give : Texts → Bool → Option (List ℕ) → ℕ → Given
texts_give t listed node until = record {
  program = Ok t.program.items;
  bodies = Ok t.bodies.items;
  sensors = Ok t.sensors.items;
  schedule = Ok t.schedule.items;
  table = Ok t.table.items;
  cores = Ok t.cores.items;
  listed = listed;
  node = node;
  until = until;
}

-- what is given to the stages that are asked
abbrev pub given_of : Request → Given
given_of r = texts_give r.texts r.listed r.node r.until

-- there are no more bytes than the bodies may have, where they are looked at
abbrev pub AreFewWhere : Bool → List ℕ → Type 0
AreFewWhere true bytes = length bytes ≤ MAX_BODIES
AreFewWhere false bytes = Unit {0}

-- this is asked for the command, over a folder of which so much is known
pub record IsRequestOf (told : Option Folder) (c : Command) (r : Request) : Type 0 where
  pub given : IsGiven told c (given_of r)
  pub named : r.named ≡ is_some c.bodies
  pub until : r.until ≡ c.until

-- the stage refuses for such a cause, or memory ran out
abbrev pub StopsBy : Stage → (Fault → Type 0) → Stop → Type 0
StopsBy stage cause (stops.Unread part) = ⊥
StopsBy stage cause (stops.Refused at fault) = (at ≡ stage) × cause fault
StopsBy stage cause stops.Memory = Unit {0}

-- the stage refuses, or memory ran out
abbrev pub StopsAt : Given → Stage → Stop → Type 0
StopsAt g stage = StopsBy stage (Refuses g stage)

-- a stage of the list refuses, or memory ran out
abbrev pub StopsIn : Given → List Stage → Stop → Type 0
StopsIn g [] stop = ⊥
StopsIn g (stage ∷ rest) stop = StopsAt g stage stop ⊎ (Holds g stage × StopsIn g rest stop)

-- all stages of the list hold
abbrev pub AllHold : Given → List Stage → Type 0
AllHold g [] = Unit {0}
AllHold g (stage ∷ rest) = Holds g stage × AllHold g rest

-- the stage holds and this comes of it; or it refuses, or memory ran out
abbrev pub PassesAt : {X : Type 0} → Given → Stage → (X → Type 0) → Result X Stop → Type 0
PassesAt g stage found (Ok made) = found made × Holds g stage
PassesAt g stage found (Err stop) = StopsAt g stage stop

-- all stages of the list hold and this comes of them; or one of them refuses, or memory ran out
abbrev pub Passes : {X : Type 0} → Given → List Stage → (X → Type 0) → Result X Stop → Type 0
Passes g list found (Ok made) = found made × AllHold g list
Passes g list found (Err stop) = StopsIn g list stop

-- a stage of the list is reached: those before it hold
pub record IsReached (g : Given) (list : List Stage) (stage : Stage) : Type 0 where
  pub before : List Stage
  pub after : List Stage
  pub stands : list ≡ before ++ (stage ∷ after)
  pub hold : Comes g before None

-- a reading of this file failed, memory ran out, or the file is refused
abbrev pub IsFileStop : FolderView → FolderView → InputFile → Option (List ℕ) → Stop → Type 0
IsFileStop old new part name (stops.Unread at) =
    (at ≡ part) × (label : List ℕ) × (name ≡ Some label) × (new.failed ≡ old.failed ++ (label ∷ []))
IsFileStop old new part name (stops.Refused stage fault) =
    (stage ≡ stages.File part) × IsContent old.folder part name (Err fault) × (new.failed ≡ old.failed)
IsFileStop old new part name stops.Memory = new.failed ≡ old.failed

-- the readings that were asked for are these more, one after the other: those of these files of the command
abbrev pub AsksFor : FolderView → FolderView → Command → List InputFile → Type 0
AsksFor old new c list = new.asked ≡ old.asked ++ names_of c list

-- those of the first few files, in order
abbrev pub AsksForFirst : FolderView → FolderView → Command → Type 0
AsksForFirst old new c = (count : ℕ) × AsksFor old new c (take count all_files)

-- which readings were asked for where a command stops: those up to the file that is told, those of all files where a later stage
-- refuses, and some first ones where memory ran out
abbrev pub AsksAt : FolderView → FolderView → Command → Stage → Type 0
AsksAt old new c (stages.File part) = AsksFor old new c (up_to part)
AsksAt old new c stage = AsksFor old new c all_files

abbrev pub AsksTo : FolderView → FolderView → Command → Stop → Type 0
AsksTo old new c (stops.Unread part) = AsksFor old new c (up_to part)
AsksTo old new c (stops.Refused stage fault) = AsksAt old new c stage
AsksTo old new c stops.Memory = AsksForFirst old new c

-- the same of one of the files of a command, when those before it were read
abbrev pub IsStopOfFiles : FolderView → FolderView → Command → Stop → Type 0
IsStopOfFiles old new c (stops.Unread part) =
    ((g : Given) × IsGiven old.folder c g × IsReached g files (stages.File part))
    × (name : List ℕ) × (file_of c part ≡ Some name) × (new.failed ≡ old.failed ++ (name ∷ []))
IsStopOfFiles old new c (stops.Refused stage fault) =
    ((g : Given) × IsGiven old.folder c g × Comes g files (Some (stage, fault))) × (new.failed ≡ old.failed)
IsStopOfFiles old new c stops.Memory = new.failed ≡ old.failed
