use Rattle.std.proofs.Common.{◌-◌, ◌<◌, ◌≤◌, ℕ, length, slice_index}
use Rattle.prl_numbers.proofs.counts.count_before.Given as goal

abbrev pub invariant-loop-low : goal.invariant-loop-low
invariant-loop-low l = record {
  order : l.low ≤ l.high;
  within : l.high ≤ length l.releases;
  before : (x : ℕ) → x < l.low → slice_index l.releases x < l.date;
  after : (x : ℕ) → l.high ≤ x → x < length l.releases → l.date ≤ slice_index l.releases x;
}

abbrev pub decreases-loop-low : goal.decreases-loop-low
decreases-loop-low l = l.high - l.low
