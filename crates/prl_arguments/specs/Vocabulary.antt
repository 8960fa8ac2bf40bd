-- The words of this crate that clauses and proofs use, from one place.
pub use Rattle.prl_arguments.specs.Arguments.{AreInRange, Values, all_fit, all_settings, asked_of}
pub use Rattle.prl_arguments.specs.Arguments.{asked_with, command_of, command_with, first_option}
pub use Rattle.prl_arguments.specs.Arguments.{fits, has, is_in, is_same, is_value, mode_named}
pub use Rattle.prl_arguments.specs.Arguments.{name_of, needs, nothing, number_or, range_of}
pub use Rattle.prl_arguments.specs.Arguments.{with_options, with_value, with_words}
unfoldable pub use Rattle.prl_arguments.specs.Arguments.{asked_of_mode}
pub use Rattle.prl_arguments.specs.code.Options.{app_of_mode, faults_of, is_taken, option_rule}
pub use Rattle.prl_arguments.specs.code.Options.{parser_by, with_setting}
pub use Rattle.prl_arguments.specs.code.Settings.{bytes_of, given_by, place_of}
pub use Rattle.prl_arguments.specs.declared.arguments.Command.{Command}
pub use Rattle.prl_arguments.specs.declared.arguments.Mode.{Mode}
pub use Rattle.prl_arguments.specs.declared.arguments.Setting.{Setting}
pub use Rattle.prl_arguments.specs.declared.arguments.TheConstants.{MAX_SIZE, MAX_UNTIL}
pub use Rattle.prl_arguments.specs.declared.arguments.TheConstants.{MAX_WORKERS}
