use Rattle.prl_ages.specs.code.Rising.{IsUnderWay}
use Rattle.prl_ages.proofs.needs.round.Given as goal

abbrev pub invariant-loop-e : goal.invariant-loop-e
invariant-loop-e l = IsUnderWay l.plan.graph l.chain l.a.0 l.k l.fn.counts l.e l.counts l.rose
