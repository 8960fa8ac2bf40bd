-- The arguments of the command line.
use Rattle.std.specs.Prelude.{◌==◌, ◌&&◌, ◌||◌, ◌≡◌, ◌≤◌, ℕ, zero, suc, Bool, true, false, not, List, [], ◌∷◌, drop, length, take, Option, Some, None, is_some, nat_le, if◌then◌else◌, codes}
use Rattle.std.specs.List.{list_all, list_any}
use Rattle.std.specs.Option.{option_map_or}
use Rattle.std.specs.Str.{bytes_eq}
use Rattle.prl_base.specs.Decimals.{decimal_of}
use Rattle.prl_base.specs.Options.{◌>>=◌}
use Rattle.prl_arguments.specs.declared.arguments.TheConstants.{MAX_SIZE, MAX_UNTIL, MAX_WORKERS}
use Rattle.prl_arguments.specs.declared.arguments.Mode.{Mode}
use Rattle.prl_arguments.specs.declared.arguments.Mode.TheVariants as modes
use Rattle.prl_arguments.specs.declared.arguments.Setting.{Setting}
use Rattle.prl_arguments.specs.declared.arguments.Setting.TheVariants as settings
use Rattle.prl_arguments.specs.declared.arguments.Command.{Command}
use Rattle.prl_rule.specs.declared.views.Gate.{Gate}
use Rattle.prl_rule.specs.declared.views.Gate.TheVariants as gates

-- the mode of a name
abbrev pub mode_named : List ℕ → Option Mode
mode_named name =
    if bytes_eq name (codes "check") then Some modes.Check
    else if bytes_eq name (codes "cores") then Some modes.Cores
    else if bytes_eq name (codes "cycle") then Some modes.Cycle
    else if bytes_eq name (codes "edf") then Some modes.Edf
    else if bytes_eq name (codes "flows") then Some modes.Flows
    else if bytes_eq name (codes "generate") then Some modes.Generate
    else if bytes_eq name (codes "plan") then Some modes.Plan
    else if bytes_eq name (codes "print") then Some modes.Print
    else if bytes_eq name (codes "replay") then Some modes.Replay
    else if bytes_eq name (codes "run") then Some modes.Run
    else if bytes_eq name (codes "schedule") then Some modes.Schedule
    else if bytes_eq name (codes "table") then Some modes.Table
    else None

-- the options that a mode needs
abbrev pub needed : Mode → List Setting
needed modes.Check = settings.Program ∷ []
needed modes.Cores = settings.Program ∷ settings.Sensors ∷ settings.Cores ∷ settings.Until ∷ []
needed modes.Cycle = settings.Program ∷ settings.Sensors ∷ settings.Table ∷ settings.Until ∷ []
needed modes.Edf = settings.Program ∷ settings.Until ∷ []
needed modes.Flows = settings.Program ∷ settings.Sensors ∷ settings.Until ∷ []
needed modes.Generate = settings.Seed ∷ settings.Size ∷ []
needed modes.Plan = settings.Program ∷ []
needed modes.Print = settings.Program ∷ []
needed modes.Replay = settings.Program ∷ settings.Sensors ∷ settings.Schedule ∷ settings.Until ∷ []
needed modes.Run = settings.Program ∷ settings.Sensors ∷ settings.Until ∷ []
needed modes.Schedule = settings.Program ∷ settings.Until ∷ []
needed modes.Table = settings.Program ∷ []

-- the options that it may have beside those
abbrev pub possible : Mode → List Setting
possible modes.Check = settings.Bodies ∷ settings.Node ∷ []
possible modes.Cores = settings.Bodies ∷ settings.Schedule ∷ settings.Node ∷ []
possible modes.Cycle = settings.Bodies ∷ settings.Node ∷ []
possible modes.Edf = settings.Node ∷ []
possible modes.Flows = settings.Bodies ∷ settings.Node ∷ []
possible modes.Generate = []
possible modes.Plan = settings.Node ∷ []
possible modes.Print = []
possible modes.Replay = settings.Bodies ∷ settings.Node ∷ []
possible modes.Run = settings.Bodies ∷ settings.Node ∷ settings.Workers ∷ settings.Clock ∷ []
possible modes.Schedule = settings.Node ∷ []
possible modes.Table = settings.Node ∷ []

abbrev pub all_settings : List Setting
all_settings =
    settings.Program ∷ settings.Bodies ∷ settings.Sensors ∷ settings.Schedule ∷ settings.Table ∷ settings.Cores ∷ settings.Node
    ∷ settings.Until ∷ settings.Workers ∷ settings.Clock ∷ settings.Seed ∷ settings.Size ∷ []

-- the name of an option, which is written after `--`
abbrev pub name_of : Setting → List ℕ
name_of settings.Program = codes "program"
name_of settings.Bodies = codes "bodies"
name_of settings.Sensors = codes "sensors"
name_of settings.Schedule = codes "schedule"
name_of settings.Table = codes "table"
name_of settings.Cores = codes "cores"
name_of settings.Node = codes "node"
name_of settings.Until = codes "until"
name_of settings.Workers = codes "workers"
name_of settings.Clock = codes "clock"
name_of settings.Seed = codes "seed"
name_of settings.Size = codes "size"

-- options are the same where their names are
abbrev pub is_same : Setting → Setting → Bool
is_same one other = bytes_eq (name_of one) (name_of other)

abbrev pub is_among : Setting → List Setting → Bool
is_among setting list = list_any (λ other. is_same other setting) list

abbrev pub needs : Mode → Setting → Bool
needs mode setting = is_among setting (needed mode)

abbrev pub may : Mode → Setting → Bool
may mode setting = is_among setting (possible mode)

abbrev pub has : Mode → Setting → Bool
has mode setting = needs mode setting || may mode setting

-- the least and the greatest number that an option may give, where it has a range
abbrev pub range_of : Setting → Option (ℕ × ℕ)
range_of settings.Until = Some (0, MAX_UNTIL)
range_of settings.Workers = Some (1, MAX_WORKERS)
range_of settings.Size = Some (1, MAX_SIZE)
range_of other = None

-- what stands after the front, where the text begins with it
abbrev pub after_front : List ℕ → List ℕ → Option (List ℕ)
after_front front text = if bytes_eq (take (length front) text) front then Some (drop (length front) text) else None

-- after an option in its word stands nothing, or `=` and its value
abbrev pub own_value : List ℕ → Option (Option (List ℕ))
own_value [] = Some None
own_value (b ∷ value) = if b == 61 then Some (Some value) else None

-- an option, with its value where that stands in the same word
abbrev pub Named : Type 0
Named = Setting × Option (List ℕ)

abbrev pub named_by : Setting → List ℕ → Option Named
named_by setting word = do
  dashed ← after_front (codes "--") word
  rest ← after_front (name_of setting) dashed
  value ← own_value rest
  Some (setting, value)

abbrev pub or_else : Option Named → Option Named → Option Named
or_else (Some named) other = Some named
or_else None other = other

-- the one of these options that the word names
abbrev pub named_in : List Setting → List ℕ → Option Named
named_in [] word = None
named_in (setting ∷ rest) word = or_else (named_by setting word) (named_in rest word)

-- the values of options, where they are given
abbrev pub Values : Type 0
Values = Setting → Option (List ℕ)

abbrev pub nothing : Values
nothing setting = None

-- the values with one more
abbrev pub with_value : Values → Setting → List ℕ → Values
with_value given setting value other = if is_same setting other then Some value else given other

-- the value of an option is not empty and does not begin with `-`
abbrev pub is_value : List ℕ → Bool
is_value [] = false
is_value (b ∷ bs) = not (b == 45)

-- one option more, which is not given yet
abbrev pub with_option : Values → Setting → List ℕ → Option Values
with_option given setting value =
    if is_value value && not (is_some (given setting)) then Some (with_value given setting value) else None

-- the value of an option, from its own word or else the next one, and the words after it
abbrev pub value_from : Option (List ℕ) → List (List ℕ) → Option (List ℕ × List (List ℕ))
value_from (Some value) later = Some (value, later)
value_from None [] = None
value_from None (value ∷ after) = Some (value, after)

-- the values with those of the option that stands first, and the words after it
abbrev pub first_option : Values → List ℕ → List (List ℕ) → Option (Values × List (List ℕ))
first_option given word later = do
  named ← named_in all_settings word
  taken ← value_from named.1 later
  more ← with_option given named.0 taken.0
  Some (more, taken.1)

-- The values with those of all these words, at most so many options.
abbrev pub with_options : ℕ → Values → List (List ℕ) → Option Values
with_options n given [] = Some given
with_options zero given (word ∷ later) = None
with_options (suc n) given (word ∷ later) = do
  read ← first_option given word later
  with_options n read.0 read.1

-- the same of all options that they can hold
abbrev pub with_words : Values → List (List ℕ) → Option Values
with_words given words = with_options (length words) given words

-- the number that 1 to 20 digits spell, below 2 ^ 64
abbrev pub number_spelled : List ℕ → Option ℕ
number_spelled text = do
  number ← decimal_of text
  if nat_le (length text) 20 then Some number else None

-- the number of an option, or another one where the option is not given
abbrev pub number_or : ℕ → Option (List ℕ) → Option ℕ
number_or other None = Some other
number_or other (Some text) = number_spelled text

-- whether the clock waits for the jobs that are due: it does where nothing is said of it
abbrev pub clock_of : Option (List ℕ) → Option Gate
clock_of None = Some gates.Gated
clock_of (Some text) =
    if bytes_eq text (codes "gated") then Some gates.Gated
    else if bytes_eq text (codes "free") then Some gates.Free
    else None

-- the command of a mode with these values, and with what some of them spell
abbrev pub command_with : Mode → Values → ℕ → ℕ → Gate → ℕ → ℕ → Command
command_with mode given until workers clock seed size = record {
  mode = mode;
  program = given settings.Program;
  bodies = given settings.Bodies;
  sensors = given settings.Sensors;
  schedule = given settings.Schedule;
  table = given settings.Table;
  cores = given settings.Cores;
  node = given settings.Node;
  until = until;
  workers = workers;
  clock = clock;
  seed = seed;
  size = size;
}

-- Values of options, with the command that they spell. A number that is not given is 0, but there is one worker then.
abbrev pub asked_with : Mode → Values → Option (Values × Command)
asked_with mode given = do
  until ← number_or 0 (given settings.Until)
  workers ← number_or 1 (given settings.Workers)
  clock ← clock_of (given settings.Clock)
  seed ← number_or 0 (given settings.Seed)
  size ← number_or 0 (given settings.Size)
  Some (given, command_with mode given until workers clock seed size)

-- the same of the words after a mode
unfoldable pub asked_of_mode : Mode → List (List ℕ) → Option (Values × Command)
asked_of_mode mode words = do
  given ← with_words nothing words
  asked_with mode given

-- the same of all words: the program's own name, which is not read, the mode, and its options
abbrev pub asked_of : List (List ℕ) → Option (Values × Command)
asked_of [] = None
asked_of (own ∷ []) = None
asked_of (own ∷ name ∷ rest) = do
  mode ← mode_named name
  asked_of_mode mode rest

-- the value of an option is a number in its range, where it has one
abbrev pub is_in : Option (ℕ × ℕ) → List ℕ → Bool
is_in None text = true
is_in (Some range) text = option_map_or (λ number. nat_le range.0 number && nat_le number range.1) (decimal_of text) false

-- A mode has the options that it needs, and none but these and those that it may have. Their values are in their ranges.
abbrev pub fits : Mode → Setting → Option (List ℕ) → Bool
fits mode setting None = not (needs mode setting)
fits mode setting (Some value) = has mode setting && is_in (range_of setting) value

abbrev pub all_fit : Mode → Values → Bool
all_fit mode given = list_all (λ setting. fits mode setting (given setting)) all_settings

-- The command that the words ask for, where its options fit its mode.
abbrev pub command_of : List (List ℕ) → Option Command
command_of words = do
  asked ← asked_of words
  if all_fit asked.1.mode asked.0 then Some asked.1 else None

-- the numbers are in the ranges that a command of the mode has
pub record AreInRange (mode : Mode) (date threads lanes : ℕ) : Type 0 where
  pub until : date ≤ MAX_UNTIL
  pub workers : (1 ≤ threads) × (threads ≤ MAX_WORKERS)
  pub size : lanes ≤ MAX_SIZE
  pub some : mode ≡ modes.Generate → 1 ≤ lanes
