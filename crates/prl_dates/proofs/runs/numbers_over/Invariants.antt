use Rattle.prl_base.proofs.Standard.{◌≡◌, ◌<◌, ℕ, length, slice_index_or, pos}
use Rattle.prl_plan.specs.Precedence.{preceding}
use Rattle.prl_dates.proofs.runs.numbers_over.Given as goal

abbrev pub invariant-loop-n : goal.invariant-loop-n
invariant-loop-n l = record {
  long : length l.numbers.items ≡ l.n;
  each : (k : ℕ) → k < l.n → slice_index_or l.numbers.items k (pos 0) ≡ preceding l.ops (pos k);
}
