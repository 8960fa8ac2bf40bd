use Rattle.prl_plan.proofs.PlanFacts.{operand_horizon}
use Rattle.prl_words.proofs.jobs.operands_are_of_horizon_jobs.Goals as goal

pub returns : goal.returns
returns c = operand_horizon
