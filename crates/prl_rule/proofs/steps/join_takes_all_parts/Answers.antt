use Rattle.prl_rule.proofs.SeatSteps.{join_keeps, join_has_task, join_has_clock}
use Rattle.prl_rule.proofs.steps.join_takes_all_parts.Goals as goal

pub returns : goal.returns
returns c = record { keeps = join_keeps; tasks = join_has_task; clock = join_has_clock }
