use Rattle.std.proofs.Common.{◌≡◌, ◌<◌, ℕ, true}
use Rattle.prl_flow.specs.Uses.{IsCyclic, is_made}
use Rattle.prl_flow.specs.declared.programs.Flow.{Flow}
use Rattle.prl_causal.proofs.causality.first_named.Given as goal

abbrev pub invariant-loop-i : goal.invariant-loop-i
invariant-loop-i l = (j : ℕ) → j < l.i → (other : Flow) → IsCyclic l.uses.flat.now j other → is_made other.label ≡ true
