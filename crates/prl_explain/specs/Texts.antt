-- The files that the words name, and their bytes.
use Rattle.std.specs.Prelude.{◌≡◌, ◌≤◌, ◌⊎◌, ℕ, List, Option, Some, None, IfSome, length, codes, vec_items}
use Rattle.std.specs.Option.{option_map}
use Rattle.prl_io.specs.Views.{FolderView}
use Rattle.prl_io.specs.declared.endings.Stop.{Stop}
use Rattle.prl_io.specs.declared.endings.Stop.TheVariants as stops
use Rattle.prl_io.specs.Files.{IsFileStop}
use Rattle.prl_io.specs.Pairs.{value_of}
use Rattle.prl_stages.specs.declared.sizes.TheConstants.{MAX_BODIES, MAX_CORES, MAX_PROGRAM, MAX_SENSORS, MAX_SCHEDULE, MAX_TABLE}
use Rattle.prl_explain.specs.declared.texts.TheConstants.{MAX_PLAN}
use Rattle.prl_explain.specs.declared.texts.Texts.{Texts}
use Rattle.prl_sentences.specs.declared.kinds.Part.{Part}
use Rattle.prl_sentences.specs.declared.kinds.Part.TheVariants as parts

-- what is known of a folder: the bytes of each file by its name
abbrev pub Folder : Type 0
Folder = Option (List ℕ → Option (List ℕ))

-- the option that names a file, and the most bytes that it may have
abbrev pub option_of : Part → List ℕ
option_of parts.Program = codes "--program"
option_of parts.Bodies = codes "--bodies"
option_of parts.Sensors = codes "--sensors"
option_of parts.Schedule = codes "--schedule"
option_of parts.Table = codes "--table"
option_of parts.Cores = codes "--cores"
option_of parts.Plan = codes "--plan"

abbrev pub most_of : Part → ℕ
most_of parts.Program = MAX_PROGRAM
most_of parts.Bodies = MAX_BODIES
most_of parts.Sensors = MAX_SENSORS
most_of parts.Schedule = MAX_SCHEDULE
most_of parts.Table = MAX_TABLE
most_of parts.Cores = MAX_CORES
most_of parts.Plan = MAX_PLAN

-- the bytes of the file that the words name by an option; none where they have no such option
abbrev pub IsNamed : Folder → List (List ℕ) → Part → Option (List ℕ) → Type 0
IsNamed folder words part None = value_of (option_of part) words ≡ None
IsNamed folder words part (Some bytes) =
    (name : List ℕ) × (value_of (option_of part) words ≡ Some name) × IfSome folder (λ f. f name ≡ Some bytes) × (length bytes ≤ most_of part)

-- the bytes of a file, of those that were read
abbrev pub text_in : Texts → Part → Option (List ℕ)
text_in texts parts.Program = option_map vec_items texts.program
text_in texts parts.Bodies = option_map vec_items texts.bodies
text_in texts parts.Sensors = option_map vec_items texts.sensors
text_in texts parts.Schedule = option_map vec_items texts.schedule
text_in texts parts.Table = option_map vec_items texts.table
text_in texts parts.Cores = option_map vec_items texts.cores
text_in texts parts.Plan = option_map vec_items texts.plan

-- none is longer than it may be
abbrev pub AreFew : Texts → Type 0
AreFew texts = (part : Part) → IfSome (text_in texts part) (λ bytes. length bytes ≤ most_of part)

-- they are those of the files that the words name, with the name of the node that is to be main
pub record AreNamed (folder : Folder) (words : List (List ℕ)) (texts : Texts) : Type 0 where
  pub each : (part : Part) → IsNamed folder words part (text_in texts part)
  pub node : texts.node ≡ value_of (codes "--node") words

-- a file that the words name is not there, is too long, or was not read; or memory ran out
abbrev pub IsStopOfFile : FolderView → FolderView → List (List ℕ) → Stop → Type 0
IsStopOfFile old new words stop =
    ((part : Part) × (name : List ℕ) × (value_of (option_of part) words ≡ Some name) × IsFileStop old new name (most_of part) stop)
    ⊎ ((stop ≡ stops.Memory) × (new.failed ≡ old.failed))
