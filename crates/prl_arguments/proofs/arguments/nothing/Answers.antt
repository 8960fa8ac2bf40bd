use Rattle.prl_base.proofs.Standard.{◌≡◌, None, length, refl, replicate, fun_ext}
use Rattle.prl_arguments.specs.Vocabulary.{Setting, all_settings, nothing, given_by}
use Rattle.prl_arguments.specs.declared.arguments.Setting.TheVariants as settings
use Rattle.prl_arguments.proofs.arguments.nothing.Goals as goal

none_at : (s : Setting) → given_by (record { values = replicate (length all_settings) None }) s ≡ nothing s
none_at settings.Program = refl
none_at _ = refl

pub returns : goal.returns
returns c = fun_ext none_at
