use Rattle.prl_flow.specs.States.{flow_at, registers_at}
use Rattle.prl_causal.proofs.Marks.{program-map}
use Rattle.prl_causal.proofs.behaviours.rules_follow_marks.Goals as goal

pub returns : goal.returns
returns c = λ s p main e. program-map (flow_at s) (registers_at s) (λ k. tt {0}) p main e
