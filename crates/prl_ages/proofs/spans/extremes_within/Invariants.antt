use Rattle.prl_ages.specs.code.Extremes.{AreExtremes}
use Rattle.prl_ages.proofs.spans.extremes_within.Given as goal

abbrev pub invariant-loop-k : goal.invariant-loop-k
invariant-loop-k l = AreExtremes l.plan.graph l.chain l.a.0 l.from l.k l.list.items
