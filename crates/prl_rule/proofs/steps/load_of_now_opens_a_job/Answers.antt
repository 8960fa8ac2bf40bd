use Rattle.prl_rule.proofs.JobSteps.{load_now_keeps, load_now_tells}
use Rattle.prl_rule.proofs.ClockSteps.{now_is_own}
use Rattle.prl_rule.proofs.Telling.{now_in_end}
use Rattle.prl_rule.proofs.steps.load_of_now_opens_a_job.Goals as goal

pub returns : goal.returns
returns c = record {
  keeps = λ k run v w es words views id i view p a has shut. load_now_keeps k run v w es words views id i view p a has.seat has.part shut;
  rises = λ k run v w es words views id i view p a has. load_now_tells k run v w es words views id i view p a has.seat has.part;
  within = now_in_end;
  own = λ k run v w es words views id view r a has. now_is_own k run v w es words views id view r a has.seat has.part;
}
