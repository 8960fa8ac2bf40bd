use Rattle.prl_evaluation.specs.Vocabulary.{UnderWay, AreWhole}
use Rattle.prl_evaluation.proofs.wholes.fill_wholes.Given as goal

abbrev pub invariant-loop-flow : goal.invariant-loop-flow
invariant-loop-flow l = UnderWay l.setting l.flows l.runs × AreWhole l.setting l.flows
