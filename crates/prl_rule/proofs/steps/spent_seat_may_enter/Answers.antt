use Rattle.prl_rule.proofs.SeatSteps.{enter_keeps}
use Rattle.prl_rule.proofs.steps.spent_seat_may_enter.Goals as goal

pub returns : goal.returns
returns c = enter_keeps
