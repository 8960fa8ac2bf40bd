use Rattle.std.proofs.Common.{◌≡◌, ◌<◌, ℕ, slice_index}
use Rattle.prl_words.proofs.steps.leading_zeros.Given as goal

abbrev pub invariant-loop-number : goal.invariant-loop-number
invariant-loop-number l = (l.count ≡ l.number-index) × ((i : ℕ) → i < l.count → slice_index l.repeat i ≡ 0)
