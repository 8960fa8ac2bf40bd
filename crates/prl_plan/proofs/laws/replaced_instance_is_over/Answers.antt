use Rattle.prl_plan.proofs.PlanFacts.{replaced_over}
use Rattle.prl_plan.proofs.laws.replaced_instance_is_over.Goals as goal

pub returns : goal.returns
returns c = replaced_over
