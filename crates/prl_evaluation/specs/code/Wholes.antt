-- Flows that are evaluated whole.
use Rattle.std.specs.Prelude.{◌≡◌, ◌+◌, ◌<◌, ◌≤◌, ◌⊎◌, ◌==◌, ◌++◌, ◌∷◌, ℕ, Bool, List, [], length, Some, slice_get}
use Rattle.prl_base.specs.declared.numbers.FlowNo.{FlowNo}
use Rattle.prl_base.specs.declared.values.Value.{Value}
use Rattle.prl_flow.specs.Counts.{dates_before}
use Rattle.prl_flow.specs.Programs.{FlatProgram}
use Rattle.prl_flow.specs.Solutions.{clock_of}
use Rattle.prl_flow.specs.Uses.{IsArgument}
use Rattle.prl_flow.specs.declared.programs.App.{App}
use Rattle.prl_flow.specs.declared.programs.Def.{Def}
use Rattle.prl_flow.specs.declared.programs.Def.TheVariants as definitions
use Rattle.prl_flow.specs.declared.programs.Flow.{Flow}
use Rattle.prl_evaluation.specs.code.Dates.{IsFull}
use Rattle.prl_evaluation.specs.code.Fronts.{len}
use Rattle.prl_evaluation.specs.declared.sequences.Visited.{Visited}
use Rattle.prl_evaluation.specs.declared.settings.Setting.{Setting}

-- these are flows of the program
abbrev pub AreFlows : FlatProgram → List FlowNo → Type 0
AreFlows p flows = (b : ℕ) (x : FlowNo) → slice_get flows b ≡ Some x → x.0 < length p.flows

abbrev pub AreVisited : FlatProgram → List Visited → Type 0
AreVisited p visits = (b : ℕ) (v : Visited) → slice_get visits b ≡ Some v → v.flow.0 < length p.flows

-- what is visited is what was, or the flow as well
abbrev pub Opens : FlowNo → List Visited → List Visited → Type 0
Opens flow old new = (new ≡ old) ⊎ (new ≡ old ++ record { flow = flow; looked_at = 0 } ∷ [])

-- the definition uses flow j, at its own date or delayed
abbrev pub Names : FlatProgram → Def → ℕ → Type 0
Names p (definitions.Sensor k) j = ⊥
Names p (definitions.Copy of) j = of.0 ≡ j
Names p (definitions.Const v) j = ⊥
Names p (definitions.Apply k out) j = IsArgument p k j
Names p (definitions.Op op of) j = of.0 ≡ j

-- whether flow `i` has a value for each of its dates
abbrev pub is_full : Setting → List (List Value) → ℕ → Bool
is_full s flows i = len flows i == dates_before s.until (clock_of s.clocks.now i)

-- each flow has all its values or none
abbrev pub AreWhole : Setting → List (List Value) → Type 0
AreWhole s flows = (i : ℕ) → i < length s.flat.now.flows → IsFull s flows i ⊎ (len flows i ≡ 0)

-- All outputs of an application, or a flow that is none alone. Each has as many dates, and what they use is full.
pub record IsGroup (s : Setting) (group : List FlowNo) (number : ℕ) (flows : List (List Value)) : Type 0 where
  pub within : AreFlows s.flat.now group
  pub dates : (b : ℕ) (x : FlowNo) → slice_get group b ≡ Some x → dates_before s.until (clock_of s.clocks.now x.0) ≡ number
  pub uses : (b j : ℕ) (x : FlowNo) (flow : Flow) → slice_get group b ≡ Some x → slice_get s.flat.now.flows x.0 ≡ Some flow → Names s.flat.now flow.def j → IsFull s flows j
  pub outs : (b k out o : ℕ) (x f : FlowNo) (flow : Flow) (app : App) → slice_get group b ≡ Some x → slice_get s.flat.now.flows x.0 ≡ Some flow → flow.def ≡ definitions.Apply k out
      → slice_get s.flat.now.apps k ≡ Some app → slice_get app.outs o ≡ Some f → (c : ℕ) × (slice_get group c ≡ Some f)

-- the flows of the group have `n` values, the first `q` of them one more at least; each other flow has all or none
pub record IsFilling (s : Setting) (group : List FlowNo) (number : ℕ) (flows : List (List Value)) (n q : ℕ) : Type 0 where
  pub is_group : IsGroup s group number flows
  pub done : (b : ℕ) (x : FlowNo) → slice_get group b ≡ Some x → b < q → n + 1 ≤ len flows x.0
  pub left : (b : ℕ) (x : FlowNo) → slice_get group b ≡ Some x → n ≤ len flows x.0
  pub others : (i : ℕ) → i < length s.flat.now.flows → ((b : ℕ) × (slice_get group b ≡ Some (record { 0 = i }))) ⊎ (IsFull s flows i ⊎ (len flows i ≡ 0))
