-- Which word of a command line is the first wrong one, and why. The program's own name is none of the words.
use Rattle.std.specs.Prelude.{◌&&◌, ◌||◌, ℕ, Bool, true, false, List, [], ◌∷◌, Option, Some, None, is_some, if◌then◌else◌}
use Rattle.std.specs.Option.{option_map}
use Rattle.prl_arguments.specs.declared.arguments.Mode.{Mode}
use Rattle.prl_arguments.specs.declared.arguments.Setting.{Setting}
use Rattle.prl_arguments.specs.declared.arguments.Setting.TheVariants as settings
use Rattle.prl_arguments.specs.Arguments.{Named, all_settings, clock_of, has, is_in, is_value, mode_named, named_by, named_in, needed, number_spelled, range_of}
use Rattle.prl_arguments.specs.declared.wrongs.Wrong.{Wrong}
use Rattle.prl_arguments.specs.declared.wrongs.Wrong.TheVariants as wrongs
use Rattle.prl_arguments.specs.declared.wrongs.Look.{Look}
use Rattle.prl_arguments.specs.declared.wrongs.Look.TheVariants as looks

-- what is wrong
pub data Fault : Type 0 where
  -- there is no word
  NoMode : Fault
  -- the first word is no mode
  NoSuchMode : List ℕ → Fault
  -- an option has to stand there, and the word is none
  NoOption : List ℕ → Fault
  -- the mode has not the option
  NotTaken : Setting → Fault
  -- a later word is the same option
  Again : Setting → Fault
  -- the option has no value
  NoValue : Setting → Fault
  -- the option may not have this value
  BadValue : Setting → List ℕ → Fault
  -- the mode needs the option
  Missing : Setting → Fault

abbrev pub shown : Wrong → Fault
shown wrongs.NoMode = NoMode
shown (wrongs.NoSuchMode word) = NoSuchMode word.now
shown (wrongs.NoOption word) = NoOption word.now
shown (wrongs.NotTaken setting) = NotTaken setting
shown (wrongs.Again setting) = Again setting
shown (wrongs.NoValue setting) = NoValue setting
shown (wrongs.BadValue setting value) = BadValue setting value.now
shown (wrongs.Missing setting) = Missing setting

-- the value is a number, or `gated` or `free`, where the option wants one
abbrev pub is_spelled : Setting → List ℕ → Bool
is_spelled settings.Until value = is_some (number_spelled value)
is_spelled settings.Workers value = is_some (number_spelled value)
is_spelled settings.Seed value = is_some (number_spelled value)
is_spelled settings.Size value = is_some (number_spelled value)
is_spelled settings.Clock value = is_some (clock_of (Some value))
is_spelled other value = true

-- the option may have the value
abbrev pub is_right : Setting → List ℕ → Bool
is_right setting value = is_spelled setting value && is_in (range_of setting) value

-- what is wrong with the value of an option
abbrev pub value_fault : Setting → List ℕ → Option Fault
value_fault setting value =
    if is_value value then (if is_right setting value then None else Some (BadValue setting value)) else Some (NoValue setting)

-- one of the words is the option
abbrev pub is_named : Setting → List (List ℕ) → Bool
is_named setting [] = false
is_named setting (word ∷ words) = is_some (named_by setting word) || is_named setting words

-- what a word is, where an option has to stand: something is wrong there, it is an option with its value, or one that wants a value
pub data Sight : Type 0 where
  Faulty : Fault → Sight
  Done : Sight
  Wants : Setting → Sight

abbrev pub seen : Look → Sight
seen (looks.Faulty wrong) = Faulty (shown wrong)
seen looks.Done = Done
seen (looks.Wants setting) = Wants setting

abbrev pub unless_faulty : Option Fault → Sight
unless_faulty None = Done
unless_faulty (Some fault) = Faulty fault

abbrev pub own_sight : Setting → Option (List ℕ) → Sight
own_sight setting None = Wants setting
own_sight setting (Some value) = unless_faulty (value_fault setting value)

abbrev pub named_sight : Mode → List ℕ → List (List ℕ) → Option Named → Sight
named_sight mode word later None = Faulty (NoOption word)
named_sight mode word later (Some named) =
    if has mode named.0 then
    (if is_named named.0 later then Faulty (Again named.0) else own_sight named.0 named.1)
    else Faulty (NotTaken named.0)

-- what the word is that stands before these
abbrev pub sight_of : Mode → List ℕ → List (List ℕ) → Sight
sight_of mode word later = named_sight mode word later (named_in all_settings word)

abbrev pub or_else : Option Fault → Option Fault → Option Fault
or_else None other = other
or_else (Some fault) other = Some fault

-- what comes after a word, by what the rest has where an option wants a value, or none
abbrev pub going_on : Sight → (Option Setting → Option Fault) → Option Fault
going_on (Faulty fault) rest = Some fault
going_on Done rest = rest None
going_on (Wants setting) rest = rest (Some setting)

-- what a word is, where this option wants a value, or where an option has to stand
abbrev pub step_of : Mode → Option Setting → List ℕ → List (List ℕ) → Sight
step_of mode None word later = sight_of mode word later
step_of mode (Some setting) value later = own_sight setting (Some value)

-- what is wrong first in the words after a mode, where this option wants a value
abbrev pub walked : Mode → Option Setting → List (List ℕ) → Option Fault
walked mode wants [] = option_map NoValue wants
walked mode wants (word ∷ later) = going_on (step_of mode wants word later) (λ next. walked mode next later)

-- the first of these options that no word is
abbrev pub missing : List Setting → List (List ℕ) → Option Fault
missing [] words = None
missing (setting ∷ rest) words = if is_named setting words then missing rest words else Some (Missing setting)

abbrev pub wrong_after : Option Mode → List ℕ → List (List ℕ) → Option Fault
wrong_after None word rest = Some (NoSuchMode word)
wrong_after (Some mode) word rest = or_else (walked mode None rest) (missing (needed mode) rest)

-- What is wrong first: with the mode, with a word, or with what is not there.
abbrev pub wrong_of : List (List ℕ) → Option Fault
wrong_of [] = Some NoMode
wrong_of (word ∷ rest) = wrong_after (mode_named word) word rest
