use Rattle.prl_base.proofs.Standard.{◌≡◌, ◌<◌, ℕ, Some, slice_get}
use Rattle.prl_dates.specs.declared.lanes.Lane.{Lane}
use Rattle.prl_dates.proofs.lanes.is_joined.Given as goal

abbrev pub invariant-loop-l : goal.invariant-loop-l
invariant-loop-l l = (k : ℕ) (lane : Lane) → k < l.l → slice_get l.lanes k ≡ Some lane → lane.from.0 ≡ l.from.0 → lane.to.0 ≡ l.to.0 → ⊥
