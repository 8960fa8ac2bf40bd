use Rattle.prl_words.specs.code.Steps.{AreNumbers}
use Rattle.prl_words.proofs.steps.numbers.Given as goal

abbrev pub invariant-loop-k : goal.invariant-loop-k
invariant-loop-k l = AreNumbers l.op l.word l.from l.k l.numbers.items
