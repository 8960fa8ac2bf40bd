use Rattle.std.proofs.Common.{◌≡◌, ◌<◌, ℕ, length, Some, slice_get}
use Rattle.prl_dates.proofs.rounds.all_changed.Given as goal

abbrev pub invariant-loop-job : goal.invariant-loop-job
invariant-loop-job l = record {
  long : length l.last.items ≡ l.job;
  each : (q : ℕ) → q < l.job → slice_get l.last.items q ≡ Some q;
}
