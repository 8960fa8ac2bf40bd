use Rattle.prl_base.proofs.Standard.{◌≡◌, ◌/◌, ◌<◌, ℕ, length, slice_get}
use Rattle.prl_words.proofs.holding.spread.Given as goal

abbrev pub invariant-loop-n : goal.invariant-loop-n
invariant-loop-n g l = record {
  long : length l.longer.items ≡ l.n;
  each : (k : ℕ) → k < l.n → slice_get l.longer.items k ≡ slice_get l.list (k / l.times);
}
