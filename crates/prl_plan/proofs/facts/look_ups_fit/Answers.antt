use Rattle.prl_plan.proofs.PlanNumbers.{operand_within, horizon_dates}
use Rattle.prl_plan.proofs.facts.look_ups_fit.Goals as goal

pub returns : goal.returns
returns c = record { operand = operand_within; horizon = horizon_dates }
