-- How it is told which word of a command line is wrong.
use Rattle.std.specs.Prelude.{◌==◌, ℕ, List, [], ◌∷◌, Option, Some, None, codes, drop, if◌then◌else◌}
use Rattle.std.specs.List.{flat_map}
use Rattle.prl_arguments.specs.declared.arguments.Command.{Command}
use Rattle.prl_arguments.specs.declared.arguments.Setting.{Setting}
use Rattle.prl_arguments.specs.declared.arguments.Setting.TheVariants as settings
use Rattle.prl_arguments.specs.Arguments.{command_of, name_of}
use Rattle.prl_arguments.specs.Wrong.{Fault, NoMode, NoSuchMode, NoOption, NotTaken, Again, NoValue, BadValue, Missing, wrong_of}

-- what is told of what is wrong, where `#` stands for the word of the mode, `*` for the wrong word, `@` for the name of the option, and `~` for what it wants
abbrev pub form_of : Fault → List ℕ
form_of NoMode = codes "No word stands after the program's name: a mode has to.\n"
form_of (NoSuchMode word) = codes "The first wrong word is `*`: it is no mode.\n"
form_of (NoOption word) = codes "The first wrong word is `*`: an option has to stand there, and it is none.\n"
form_of (NotTaken setting) = codes "The first wrong word is `--@`: it is no option of mode `#`.\n"
form_of (Again setting) = codes "The first wrong word is `--@`: it stands there twice.\n"
form_of (NoValue setting) =
    codes "The first wrong word is `--@`: its value is not there, which is no empty word and does not begin with `-`.\n"
form_of (BadValue setting value) = codes "The first wrong word is `*`: `--@` wants ~.\n"
form_of (Missing setting) = codes "Each word is right, and one is missing: mode `#` needs `--@` too.\n"

-- the wrong word, where it is told
abbrev pub word_in : Fault → List ℕ
word_in (NoSuchMode word) = word
word_in (NoOption word) = word
word_in (BadValue setting value) = value
word_in other = []

-- the option, where one is told
abbrev pub option_in : Fault → Option Setting
option_in (NotTaken setting) = Some setting
option_in (Again setting) = Some setting
option_in (NoValue setting) = Some setting
option_in (BadValue setting value) = Some setting
option_in (Missing setting) = Some setting
option_in other = None

abbrev pub text_by : (Setting → List ℕ) → Option Setting → List ℕ
text_by text None = []
text_by text (Some setting) = text setting

-- what an option wants
abbrev pub wanted_text : Setting → List ℕ
wanted_text settings.Until = codes "a date from 0 to 2147483647"
wanted_text settings.Workers = codes "a number from 1 to 16"
wanted_text settings.Seed = codes "a number from 0 to 18446744073709551615"
wanted_text settings.Size = codes "a number from 1 to 20"
wanted_text settings.Clock = codes "`gated` or `free`"
wanted_text other = codes "a word"

-- what a byte of that stands for, by the word of the mode
abbrev pub said : List ℕ → Fault → ℕ → List ℕ
said mode fault b =
    if b == 35 then mode else
    if b == 42 then word_in fault else
    if b == 64 then text_by name_of (option_in fault) else
    if b == 126 then text_by wanted_text (option_in fault) else
    b ∷ []

-- what is told of what is wrong, by the word of the mode
abbrev pub fault_text : List ℕ → Fault → List ℕ
fault_text mode fault = flat_map (said mode fault) (form_of fault)

abbrev pub fault_told : List ℕ → Option Fault → List ℕ
fault_told mode None = []
fault_told mode (Some fault) = fault_text mode fault

abbrev pub first_of : List (List ℕ) → List ℕ
first_of [] = []
first_of (word ∷ words) = word

unfoldable pub command_text : List ℕ
command_text = codes "These words are a command, which was not refused: give the words of the one that was.\n"

abbrev pub told_of : List (List ℕ) → Option Command → List ℕ
told_of words None = fault_told (first_of words) (wrong_of words)
told_of words (Some command) = command_text

-- what is told of the words of a command line, of which the first is not read
abbrev pub words_text : List (List ℕ) → List ℕ
words_text words = told_of (drop 1 words) (command_of words)
