use Rattle.std.proofs.Common.{◌≡◌, ◌+◌, ◌-◌, ◌*◌, ◌<◌, ◌≤◌, ℕ, length, slice_index}
use Rattle.prl_dates.proofs.leaps.raise_times.Given as goal

abbrev pub invariant-loop-q : goal.invariant-loop-q
invariant-loop-q l = record {
  long : length l.now ≡ length l.fn.now;
  done : (p : ℕ) → p < l.q → slice_index l.now p ≡ slice_index l.fn.now p + l.times * (slice_index l.fn.now p - slice_index l.past p);
  rest : (p : ℕ) → l.q ≤ p → slice_index l.now p ≡ slice_index l.fn.now p;
}
