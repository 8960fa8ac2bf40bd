use Rattle.prl_plan.proofs.StateLaws.{act_does_one_action}
use Rattle.prl_plan.proofs.laws.act_does_one_action.Goals as goal

pub returns : goal.returns
returns c = act_does_one_action
