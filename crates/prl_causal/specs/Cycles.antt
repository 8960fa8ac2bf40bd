-- Flows on cycles, and what the check of causality answers.
use Rattle.std.specs.Prelude.{◌≡◌, ◌<◌, ◌≤◌, ℕ, List, Some, slice_get, true, false}
use Rattle.prl_flow.specs.declared.programs.Flow.{Flow}
use Rattle.prl_flow.specs.Programs.{FlatProgram}
use Rattle.prl_flow.specs.Uses.{IsCyclic, IsCycleLabel, is_made}
use Rattle.prl_causal.specs.declared.causality.CausalFault.{CausalFault}
use Rattle.prl_causal.specs.declared.causality.CausalFault.TheVariants as faults

-- flow `i` is the lowest on a cycle that has a name
pub record IsFirstNamed (p : FlatProgram) (i : ℕ) : Type 0 where
  pub flow : Flow
  pub cyclic : IsCyclic p i flow
  pub named : is_made flow.label ≡ false
  pub earlier : (j : ℕ) (other : Flow) → IsCyclic p j other → j < i → is_made other.label ≡ true

-- flow `i` is the lowest on a cycle
pub record IsFirst (p : FlatProgram) (i : ℕ) : Type 0 where
  pub flow : Flow
  pub cyclic : IsCyclic p i flow
  pub lowest : (j : ℕ) (other : Flow) → IsCyclic p j other → i ≤ j

-- the label of flow `i`
pub record IsLabelOf (p : FlatProgram) (i : ℕ) (label : List ℕ) : Type 0 where
  pub flow : Flow
  pub found : slice_get p.flows i ≡ Some flow
  pub is : label ≡ flow.label

-- why there is no order: a cycle, of which this is the label, or want of memory
abbrev pub IsCausalFault : FlatProgram → CausalFault → Type 0
IsCausalFault p (faults.Cycle label) = IsCycleLabel p label
IsCausalFault p faults.Memory = Unit {0}
