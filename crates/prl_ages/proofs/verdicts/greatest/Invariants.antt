use Rattle.prl_base.proofs.Standard.{◌≡◌, ◌<◌, ◌≤◌, ℕ, Some}
use Rattle.prl_ages.specs.code.Lags.{lag_at}
use Rattle.prl_ages.specs.code.Windows.{AreWithin}
use Rattle.prl_ages.proofs.verdicts.greatest.Given as goal

abbrev pub invariant-loop-s : goal.invariant-loop-s
invariant-loop-s l =
    ((s lag : ℕ) → s < l.s → lag_at l.lags s ≡ Some lag → lag ≤ l.greatest) × ((most : ℕ) → AreWithin l.lags most → l.greatest ≤ most)
