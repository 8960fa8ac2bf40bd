use Rattle.prl_evaluation.specs.Vocabulary.{UnderWay, IsFilling}
use Rattle.prl_evaluation.proofs.wholes.fill_instance.Given as goal

abbrev pub invariant-loop-flow : goal.invariant-loop-flow
invariant-loop-flow l = UnderWay l.setting l.flows l.runs × IsFilling l.setting l.group l._number l.flows l.n l.flow-index
