-- What the files of a command give to its stages.
use Rattle.std.specs.Prelude.{◌≡◌, ◌≤◌, ◌⊎◌, ℕ, Bool, false, List, [], ◌∷◌, length, take, Option, Some, None, Result, Ok, Err, is_some, nat_le, if◌then◌else◌}
use Rattle.prl_stages.specs.declared.faults.InputFile.{InputFile}
use Rattle.prl_stages.specs.declared.faults.InputFile.TheVariants as parts
use Rattle.prl_stages.specs.declared.faults.Fault.{Fault}
use Rattle.prl_stages.specs.declared.faults.Fault.TheVariants as faults
use Rattle.prl_stages.specs.declared.sizes.TheConstants.{MAX_PROGRAM, MAX_BODIES, MAX_SENSORS, MAX_SCHEDULE, MAX_TABLE, MAX_CORES}
use Rattle.prl_arguments.specs.declared.arguments.Command.{Command}
use Rattle.prl_arguments.specs.declared.arguments.Mode.{Mode}
use Rattle.prl_arguments.specs.declared.arguments.Mode.TheVariants as modes
use Rattle.prl_gen.specs.Texts.{generated_bodies, generated_program, generated_sensors}
use Rattle.prl_gen.specs.declared.lanes.TheConstants.{UNTIL}

-- what each file gives; whether a schedule is named; the name of the node that is to be main, where one is asked for; and the date
pub record Given : Type 0 where
  pub program : Result (List ℕ) Fault
  pub bodies : Result (List ℕ) Fault
  pub sensors : Result (List ℕ) Fault
  pub schedule : Result (List ℕ) Fault
  pub table : Result (List ℕ) Fault
  pub cores : Result (List ℕ) Fault
  pub listed : Bool
  pub node : Option (List ℕ)
  pub until : ℕ

-- what a file gives
abbrev pub content_of : Given → InputFile → Result (List ℕ) Fault
content_of g parts.Program = g.program
content_of g parts.Bodies = g.bodies
content_of g parts.Sensors = g.sensors
content_of g parts.Schedule = g.schedule
content_of g parts.Table = g.table
content_of g parts.Cores = g.cores

abbrev pub bytes_of : Result (List ℕ) Fault → List ℕ
bytes_of (Ok bytes) = bytes
bytes_of (Err fault) = []

-- the bytes of a file
abbrev pub text_of : Given → InputFile → List ℕ
text_of g part = bytes_of (content_of g part)

-- the name that the command has for a file
abbrev pub file_of : Command → InputFile → Option (List ℕ)
file_of c parts.Program = c.program
file_of c parts.Bodies = c.bodies
file_of c parts.Sensors = c.sensors
file_of c parts.Schedule = c.schedule
file_of c parts.Table = c.table
file_of c parts.Cores = c.cores

-- all files, in the order in which they are read
abbrev pub all_files : List InputFile
all_files = parts.Program ∷ parts.Bodies ∷ parts.Sensors ∷ parts.Schedule ∷ parts.Table ∷ parts.Cores ∷ []

-- those that are read up to one of them
abbrev pub up_to : InputFile → List InputFile
up_to parts.Program = take 1 all_files
up_to parts.Bodies = take 2 all_files
up_to parts.Sensors = take 3 all_files
up_to parts.Schedule = take 4 all_files
up_to parts.Table = take 5 all_files
up_to parts.Cores = all_files

-- one name more, where there is one
abbrev pub named_first : Option (List ℕ) → List (List ℕ) → List (List ℕ)
named_first None names = names
named_first (Some name) names = name ∷ names

-- the names that the command has for these files, in order
abbrev pub names_of : Command → List InputFile → List (List ℕ)
names_of c [] = []
names_of c (part ∷ rest) = named_first (file_of c part) (names_of c rest)

-- the most bytes that a file may have
abbrev pub most_of : InputFile → ℕ
most_of parts.Program = MAX_PROGRAM
most_of parts.Bodies = MAX_BODIES
most_of parts.Sensors = MAX_SENSORS
most_of parts.Schedule = MAX_SCHEDULE
most_of parts.Table = MAX_TABLE
most_of parts.Cores = MAX_CORES

-- what is known of a folder: the bytes of each file by its name
abbrev pub Folder : Type 0
Folder = List ℕ → Option (List ℕ)

-- what a file gives that has these bytes, or that is not there
abbrev pub read_as : InputFile → Option (List ℕ) → Result (List ℕ) Fault
read_as part None = Err (faults.Absent part)
read_as part (Some bytes) = if nat_le (length bytes) (most_of part) then Ok bytes else Err (faults.TooLong part)

-- why a file that is not known may be refused
abbrev pub IsFileFault : InputFile → Fault → Type 0
IsFileFault part fault = (fault ≡ faults.Absent part) ⊎ (fault ≡ faults.TooLong part)

-- What a file gives: nothing where none is named; what the folder has, where that is known; else some bytes, no more
-- than may be read, or a fault of the file.
abbrev pub IsContent : Option Folder → InputFile → Option (List ℕ) → Result (List ℕ) Fault → Type 0
IsContent told part None content = content ≡ Ok []
IsContent (Some folder) part (Some name) content = content ≡ read_as part (folder name)
IsContent None part (Some name) (Ok bytes) = length bytes ≤ most_of part
IsContent None part (Some name) (Err fault) = IsFileFault part fault

-- the files of the command give this, over a folder of which so much is known
pub record IsGiven (told : Option Folder) (c : Command) (g : Given) : Type 0 where
  pub contents : (part : InputFile) → IsContent told part (file_of c part) (content_of g part)
  pub listed : g.listed ≡ is_some c.schedule
  pub node : g.node ≡ c.node
  pub until : g.until ≡ c.until

-- what a number and a size give, with no file
abbrev pub generated : ℕ → ℕ → Given
generated seed size = record {
  program = Ok (generated_program seed size);
  bodies = Ok (generated_bodies seed size);
  sensors = Ok (generated_sensors seed size);
  schedule = Ok [];
  table = Ok [];
  cores = Ok [];
  listed = false;
  node = None;
  until = UNTIL;
}

-- what is given to the stages of a command in a mode: generated texts, or what its files give
abbrev pub IsGivenIn : Mode → Option Folder → Command → Given → Type 0
IsGivenIn modes.Generate told c g = g ≡ generated c.seed c.size
IsGivenIn mode told c g = IsGiven told c g

abbrev pub IsGivenTo : Option Folder → Command → Given → Type 0
IsGivenTo told c g = IsGivenIn c.mode told c g
