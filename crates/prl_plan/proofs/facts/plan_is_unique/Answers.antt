use Rattle.prl_plan.proofs.RepeatLaws.{one_word, one_used}
use Rattle.prl_plan.proofs.OnePlan.{one_plan, windows_are_one}
use Rattle.prl_plan.proofs.facts.plan_is_unique.Goals as goal

pub returns : goal.returns
returns c = record { plan = one_plan; word = one_word; dates = windows_are_one; used = one_used }
