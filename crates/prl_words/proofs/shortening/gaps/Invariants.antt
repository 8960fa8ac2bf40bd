use Rattle.prl_base.proofs.Standard.{◌≡◌, ◌+◌, ◌<◌, ℕ, length, slice_index}
use Rattle.prl_plan.specs.Words.{number_at}
use Rattle.prl_words.proofs.shortening.gaps.Given as goal

abbrev pub invariant-loop-i : goal.invariant-loop-i
invariant-loop-i l = record {
  long : length l.gaps.items ≡ l.i;
  each : (k : ℕ) → k < l.i → number_at l.word (k + 1) ≡ number_at l.word k + slice_index l.gaps.items k;
}
