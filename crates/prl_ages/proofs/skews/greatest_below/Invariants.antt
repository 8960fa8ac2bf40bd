use Rattle.prl_ages.specs.code.Farther.{IsGreatestBelow}
use Rattle.prl_ages.proofs.skews.greatest_below.Given as goal

abbrev pub invariant-loop-k : goal.invariant-loop-k
invariant-loop-k l = IsGreatestBelow l.plan.graph l.s.0 l.r.0 l.a.0 l.k l.most
