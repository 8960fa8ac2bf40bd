use Rattle.prl_rule.proofs.SeatSteps.{split_keeps}
use Rattle.prl_rule.proofs.steps.split_gives_one_part.Goals as goal

pub returns : goal.returns
returns c = λ k run v w es words views id i view p a has. split_keeps k run v w es words views id i view p a has.seat has.part
