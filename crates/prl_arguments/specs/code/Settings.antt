-- What private functions say of the values of options.
use Rattle.std.specs.Prelude.{ℕ, List, Option, None, get_or}
use Rattle.std.specs.Option.{option_map}
use Rattle.std.specs.List.{position_or_len}
use denote.Ref.{Bor}
use Rattle.prl_arguments.specs.Arguments.{Named, Values, all_settings, command_with, is_same}
use Rattle.prl_arguments.specs.declared.arguments.Setting.{Setting}
use Rattle.prl_arguments.specs.declared.arguments.Command.{Command}
use Rattle.prl_arguments.specs.declared.arguments.Given.{Given}
use Rattle.prl_arguments.specs.declared.arguments.Wanted.{Wanted}

abbrev pub bytes_of : Option (Bor (List ℕ)) → Option (List ℕ)
bytes_of = option_map (λ bytes. bytes.now)

abbrev pub named_as : Setting × Option (Bor (List ℕ)) → Named
named_as (setting, value) = (setting, bytes_of value)

-- where an option stands among all of them
abbrev pub place_of : Setting → ℕ
place_of setting = position_or_len (is_same setting) all_settings

-- the values behind references
abbrev pub given_by : Given → Values
given_by given setting = bytes_of (get_or given.values (place_of setting) None)

-- the command that is wanted
abbrev pub wanted_command : Wanted → Command
wanted_command wanted = command_with wanted.mode (given_by wanted.given) wanted.until wanted.workers wanted.clock wanted.seed wanted.size

-- the same, with the values of the options that ask for it
abbrev pub wanted_by : Wanted → Values × Command
wanted_by wanted = (given_by wanted.given, wanted_command wanted)
