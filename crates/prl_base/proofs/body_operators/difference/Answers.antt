use Rattle.prl_base.proofs.Standard.{rules, wraps}
use Rattle.prl_base.proofs.body_operators.difference.Goals as goal

pub returns : goal.returns
returns c = search (rules, wraps)
