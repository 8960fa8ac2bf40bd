use Rattle.std.proofs.Common.{◌≡◌, ◌+◌, ◌≤◌, ℕ, length, sum, take, slice_index}
use Rattle.prl_buffers.proofs.turns.sums_of.Given as goal

abbrev pub invariant-loop-gap : goal.invariant-loop-gap
invariant-loop-gap l = record {
  total : l.total ≡ sum (take l.gap-index l.gaps);
  long : length l.sums.items ≡ l.gap-index + 1;
  each : (j : ℕ) → j ≤ l.gap-index → slice_index l.sums.items j ≡ sum (take j l.gaps);
}
