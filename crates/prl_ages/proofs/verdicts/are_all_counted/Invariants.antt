use Rattle.prl_base.proofs.Standard.{◌≡◌, ◌<◌, ◌≤◌, ℕ, Some, slice_index}
use Rattle.prl_ages.specs.code.Lags.{lag_at}
use Rattle.prl_ages.proofs.verdicts.are_all_counted.Given as goal

abbrev pub invariant-loop-s : goal.invariant-loop-s
invariant-loop-s l = (s lag : ℕ) → s < l.s → lag_at l.lags s ≡ Some lag → 1 ≤ slice_index l.counts s
