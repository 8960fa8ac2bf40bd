use Rattle.prl_base.proofs.Standard.{◌≡◌, ◌+◌, ◌<◌, ℕ, slice_get}
use Rattle.prl_numbers.proofs.repeats.comes_within.Given as goal

abbrev pub invariant-loop-i : goal.invariant-loop-i
invariant-loop-i g l = (i : ℕ) → i < l.i → slice_get l.list (i + l.step) ≡ slice_get l.list i
