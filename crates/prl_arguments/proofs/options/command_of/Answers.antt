use Rattle.std.proofs.Common.{◌≡◌, IfOk, fold, subst}
use Rattle.clap.specs.Words.{app_of}
use Rattle.clap.specs.Simple.{App}
use Rattle.prl_arguments.specs.Vocabulary.{all_settings, with_setting}
use Rattle.prl_arguments.proofs.options.command_of.Goals as goal

pub returns : goal.returns
returns c =
    subst (λ (app : App). IfOk c.with_settings.result (λ made. app_of made ≡ fold (with_setting c.args.mode) app all_settings)) c.no_options.ensures c.with_settings.ensures
