use Rattle.prl_plantext.proofs.OneText.{one_plan_of_text}
use Rattle.prl_plantext.proofs.plans.text_is_of_one_plan.Goals as goal

pub returns : goal.returns
returns c = λ text a b is_a is_b. one_plan_of_text text a b c.plan_is_unique.ensures.plan is_a is_b
