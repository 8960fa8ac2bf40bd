use Rattle.prl_rule.proofs.SeatSteps.{bare_keeps}
use Rattle.prl_rule.proofs.steps.bare_seat_may_enter.Goals as goal

pub returns : goal.returns
returns c = bare_keeps
