use Rattle.prl_ages.specs.code.Extremes.{AreTaken}
use Rattle.prl_ages.proofs.spans.take_all.Given as goal

abbrev pub invariant-loop-s : goal.invariant-loop-s
invariant-loop-s l = AreTaken l.plan.graph l.chain l.a.0 l.from l.k l.s l.extremes
