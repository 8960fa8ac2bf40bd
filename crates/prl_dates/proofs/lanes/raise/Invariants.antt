use Rattle.prl_base.proofs.Standard.{◌≡◌, ◌<◌, ◌≤◌, ℕ, slice_index_or, pos, int_max}
use Rattle.prl_dates.proofs.lanes.raise.Given as goal

abbrev pub invariant-loop-n : goal.invariant-loop-n
invariant-loop-n l = record {
  done : (k : ℕ) → k < l.n → slice_index_or l.numbers k (pos 0) ≡ int_max (slice_index_or l.fn.numbers k (pos 0)) (slice_index_or l.others k (pos 0));
  rest : (k : ℕ) → l.n ≤ k → slice_index_or l.numbers k (pos 0) ≡ slice_index_or l.fn.numbers k (pos 0);
}
