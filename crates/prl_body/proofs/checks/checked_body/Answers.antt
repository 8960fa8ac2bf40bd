use Rattle.prl_body.specs.Texts.{text_tree}
use Rattle.prl_body.proofs.BodySound.{IsWellTyped_checked}
use Rattle.prl_body.proofs.checks.checked_body.Goals as goal

pub new-requires : goal.new-requires
new-requires c = IsWellTyped_checked c.args.import.now (text_tree c.args.body.now) c.in_ok-parts.parts c.in_ok-parts.ensures
