-- The commands by which `clap` decides on the options of a mode.
use Rattle.std.specs.Prelude.{ℕ, Bool, true, false, List, [], ◌∷◌, Option, Some, None, fold, codes, if◌then◌else◌}
use Rattle.clap.specs.Walk.{Rule, Text}
use Rattle.clap.specs.Simple.{App, new_app, new_rule, on_top, with_rule}
use Rattle.clap.specs.Kinds.{Kinds}
use Rattle.clap.specs.Faults.{fault_of}
use Rattle.clap.specs.declared.builder.action.ArgAction.TheVariants.{Set}
use Rattle.clap.specs.declared.builder.value_parser.ValueParser.{ValueParser}
use Rattle.clap.specs.declared.builder.value_parser.ValueParser.TheVariants as parsers
use Rattle.prl_arguments.specs.declared.arguments.Mode.{Mode}
use Rattle.prl_arguments.specs.declared.arguments.Setting.{Setting}
use Rattle.prl_arguments.specs.Arguments.{all_settings, has, name_of, needs, range_of}

-- the values of an option: a number in its range, or any text
abbrev pub parser_by : Option (ℕ × ℕ) → ValueParser
parser_by None = parsers.String
parser_by (Some range) = parsers.Unsigned range.0 range.1

-- an option of a mode
abbrev pub option_rule : Mode → Setting → Rule
option_rule mode setting = record (new_rule (name_of setting)) {
  long = Some (name_of setting);
  action = Some Set;
  parser = Some (parser_by (range_of setting));
  required = needs mode setting;
}

-- a command with one more option, where the mode has it
abbrev pub with_setting : Mode → App → Setting → App
with_setting mode app setting =
    if has mode setting then with_rule app (option_rule mode setting) else app

-- a command with no options, and no help; an option may be repeated
abbrev pub no_options : App
no_options = on_top (λ s. record s { disable_help_flag = true; args_override_self = true }) (new_app (codes "prelude"))

-- the command of a mode
abbrev pub app_of_mode : Mode → App
app_of_mode mode = fold (with_setting mode) no_options all_settings

-- there is nothing to refuse
abbrev pub is_taken : Kinds → Bool
is_taken [] = true
is_taken (k ∷ kinds) = false

-- why `clap` refuses the options of a mode in words of which the first is not read: for none of these where it takes them
abbrev pub faults_of : Mode → List Text → Kinds
faults_of mode words = fault_of (app_of_mode mode) words
