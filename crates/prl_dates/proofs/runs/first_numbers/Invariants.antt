use Rattle.prl_base.proofs.Standard.{◌≡◌, ◌-◌, ◌<◌, ◌≤◌, ℕ, length, slice_index_or, pos}
use Rattle.prl_plan.specs.Precedence.{preceding}
use Rattle.prl_dates.proofs.runs.first_numbers.Given as goal

abbrev pub invariant-loop-n : goal.invariant-loop-n
invariant-loop-n l = record {
  long : length l.numbers.items ≡ l.n;
  within : l.n ≤ l.count;
  each : (k : ℕ) → k < l.n → slice_index_or l.numbers.items k (pos 0) ≡ preceding l.ops (pos k);
}

abbrev pub decreases-loop-n : goal.decreases-loop-n
decreases-loop-n l = l.count - l.n
