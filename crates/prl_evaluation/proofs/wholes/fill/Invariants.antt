use Rattle.prl_evaluation.specs.Vocabulary.{UnderWay, IsFilling}
use Rattle.prl_evaluation.proofs.wholes.fill.Given as goal

abbrev pub invariant-loop-n : goal.invariant-loop-n
invariant-loop-n l = UnderWay l.setting l.flows l.runs × IsFilling l.setting l.group l.number l.flows l.n 0
