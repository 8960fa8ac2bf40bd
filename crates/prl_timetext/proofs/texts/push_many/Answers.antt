use Rattle.prl_base.proofs.Standard.{◌∙◌, codes, decimal, append_assoc}
use Rattle.prl_timetext.proofs.texts.push_many.Goals as goal

pub returns : goal.returns
returns c = c.in_ok-push_field.ensures ∙ append_assoc c.args.text.now.items (codes " too many jobs ") (decimal c.args.jobs)
