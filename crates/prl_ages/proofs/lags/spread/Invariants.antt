use Rattle.prl_ages.specs.code.Lags.{IsSpreading}
use Rattle.prl_ages.proofs.lags.spread.Given as goal

abbrev pub invariant-loop-e : goal.invariant-loop-e
invariant-loop-e l = IsSpreading l.plan.graph l.chain l.a.0 l.fn.lags l.e l.lags l.came
