-- What uses that lead from one flow to another pass through.
use Rattle.std.specs.Prelude.{◌≡◌, ◌⊎◌, ℕ, false, Some, slice_get}
use Rattle.prl_flow.specs.declared.programs.Flow.{Flow}
use Rattle.prl_flow.specs.Programs.{FlatProgram}
use Rattle.prl_flow.specs.Uses.{Leads, once, then, is_made}

-- the flow is one of those that are used on the way; on a cycle all of its flows are
abbrev pub Passes : {U : ℕ → ℕ → Type 0} {i k : ℕ} → Leads U i k → ℕ → Type 0
Passes (once a b step) flow = flow ≡ b
Passes (then a b c step rest) flow = (flow ≡ b) ⊎ Passes rest flow

-- the flow of this number has a name of the program
pub record HasName (p : FlatProgram) (i : ℕ) : Type 0 where
  pub flow : Flow
  pub found : slice_get p.flows i ≡ Some flow
  pub named : is_made flow.label ≡ false

-- one of the flows on the way has a name
abbrev pub PassesName : (p : FlatProgram) {U : ℕ → ℕ → Type 0} {i k : ℕ} → Leads U i k → Type 0
PassesName p way = (flow : ℕ) × Passes way flow × HasName p flow
