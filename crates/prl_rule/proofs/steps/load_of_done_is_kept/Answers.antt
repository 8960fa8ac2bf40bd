use Rattle.prl_rule.proofs.ClockSteps.{look_keeps, look_finds_own}
use Rattle.prl_rule.proofs.steps.load_of_done_is_kept.Goals as goal

pub returns : goal.returns
returns c = record {
  keeps = λ k run v w es words views id i view r a has task. look_keeps k run v w es words views id i view r a has.seat has.part task;
  own = λ k run v w es words views id i view p a has. look_finds_own k run v w es words views id i view p a has.seat has.part;
}
