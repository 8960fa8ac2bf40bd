use Rattle.prl_base.proofs.Standard.{◌≡◌, ◌*◌, ◌≤◌, ℕ, slice_index}
use Rattle.prl_plan.specs.declared.limits.TheConstants.{MAX_PREFIX}
use Rattle.prl_plan.specs.Vocabulary.{sum_below}
use Rattle.prl_ages.proofs.settling.sum_of.Given as goal

abbrev pub invariant-loop-t : goal.invariant-loop-t
invariant-loop-t l = (l.sum ≡ sum_below (λ (x : ℕ). slice_index l.turns x) l.t) × (l.sum ≤ l.t * MAX_PREFIX)
