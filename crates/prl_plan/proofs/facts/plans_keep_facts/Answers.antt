use Rattle.prl_plan.proofs.PlanFacts.{plan_has_facts}
use Rattle.prl_plan.proofs.facts.plans_keep_facts.Goals as goal

pub returns : goal.returns
returns c = λ plan horizon is fits. plan_has_facts plan is horizon fits
