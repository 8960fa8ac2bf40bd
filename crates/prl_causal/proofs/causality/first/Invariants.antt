use Rattle.std.proofs.Common.{◌<◌, ℕ}
use Rattle.prl_flow.specs.Uses.{IsCyclic}
use Rattle.prl_flow.specs.declared.programs.Flow.{Flow}
use Rattle.prl_causal.proofs.causality.first.Given as goal

abbrev pub invariant-loop-i : goal.invariant-loop-i
invariant-loop-i l = (j : ℕ) → j < l.i → (other : Flow) → IsCyclic l.uses.flat.now j other → ⊥
