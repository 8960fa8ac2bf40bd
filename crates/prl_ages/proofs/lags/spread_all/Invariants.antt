use Rattle.prl_ages.specs.code.Lags.{AreLags, missing_in}
use Rattle.prl_ages.proofs.lags.spread_all.Given as goal

abbrev pub invariant-more : goal.invariant-more
invariant-more l = AreLags l.plan.graph l.chain l.a.0 l.lags

abbrev pub decreases-more : goal.decreases-more
decreases-more l = missing_in l.lags
