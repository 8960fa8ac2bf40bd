-- Which flows of a flat program use which, orders of flows, and cycles.
use Rattle.std.specs.Prelude.{◌≡◌, ◌<◌, ◌≤◌, ◌==◌, ◌⊎◌, ℕ, Bool, true, false, List, [], ◌∷◌, length, Some, slice_get}
use Rattle.prl_base.specs.Operators.{delays}
use Rattle.prl_base.specs.declared.numbers.FlowNo.{FlowNo}
use Rattle.prl_flow.specs.declared.programs.App.{App}
use Rattle.prl_flow.specs.declared.programs.Arg.{Arg}
use Rattle.prl_flow.specs.declared.programs.Def.{Def}
use Rattle.prl_flow.specs.declared.programs.Def.TheVariants as definitions
use Rattle.prl_flow.specs.declared.programs.Flow.{Flow}
use Rattle.prl_flow.specs.Programs.{FlatProgram}

-- flow `j` is among the arguments
pub record HasArgument (args : List Arg) (j : ℕ) : Type 0 where
  pub index : ℕ
  pub arg : Arg
  pub found : slice_get args index ≡ Some arg
  pub is : arg.flow.0 ≡ j

-- flow `j` is an argument of the application of this number
pub record IsArgument (p : FlatProgram) (k j : ℕ) : Type 0 where
  pub app : App
  pub applied : slice_get p.apps k ≡ Some app
  pub index : ℕ
  pub arg : Arg
  pub found : slice_get app.args index ≡ Some arg
  pub is : arg.flow.0 ≡ j

-- the definition uses flow `j` undelayed: a value may be made of one of the same date
abbrev pub NamesNow : FlatProgram → Def → ℕ → Type 0
NamesNow p (definitions.Sensor k) j = ⊥
NamesNow p (definitions.Copy of) j = of.0 ≡ j
NamesNow p (definitions.Const v) j = ⊥
NamesNow p (definitions.Apply app out) j = IsArgument p app j
NamesNow p (definitions.Op op of) j = (delays op ≡ false) × (of.0 ≡ j)

-- the definition uses flow `j`, delayed or not, and not through an application
abbrev pub NamesInside : Def → ℕ → Type 0
NamesInside (definitions.Sensor k) j = ⊥
NamesInside (definitions.Copy of) j = of.0 ≡ j
NamesInside (definitions.Const v) j = ⊥
NamesInside (definitions.Apply app out) j = ⊥
NamesInside (definitions.Op op of) j = of.0 ≡ j

pub record UsesNow (p : FlatProgram) (i j : ℕ) : Type 0 where
  pub flow : Flow
  pub found : slice_get p.flows i ≡ Some flow
  pub names : NamesNow p flow.def j

pub record UsesInside (p : FlatProgram) (i j : ℕ) : Type 0 where
  pub flow : Flow
  pub found : slice_get p.flows i ≡ Some flow
  pub names : NamesInside flow.def j

-- one use after another leads from the first flow to the second
pub data Leads (U : ℕ → ℕ → Type 0) : ℕ → ℕ → Type 0 where
  once : (i j : ℕ) → U i j → Leads U i j
  then : (i j k : ℕ) → U i j → Leads U j k → Leads U i k

-- the flow is on a cycle without a delay, or on one that passes through no application
abbrev pub IsOnCycle : FlatProgram → ℕ → Type 0
IsOnCycle p i = Leads (UsesNow p) i i ⊎ Leads (UsesInside p) i i

abbrev pub HasNoCycle : FlatProgram → Type 0
HasNoCycle p = (i : ℕ) → IsOnCycle p i → ⊥

-- each flow once, after those that it uses undelayed
pub record IsOrder (p : FlatProgram) (order : List FlowNo) : Type 0 where
  pub count : length order ≡ length p.flows
  pub each : (i : ℕ) → i < length p.flows → (k : ℕ) × (slice_get order k ≡ Some (record { 0 = i }))
  pub after : (j k : ℕ) (x y : FlowNo) → slice_get order j ≡ Some x → slice_get order k ≡ Some y → UsesNow p x.0 y.0 → k < j

-- the label is a made one, that of a flow without a name: it begins with `$`
abbrev pub is_made : List ℕ → Bool
is_made [] = false
is_made (b ∷ bs) = b == 36

-- flow `i` is on a cycle, and this is it
pub record IsCyclic (p : FlatProgram) (i : ℕ) (flow : Flow) : Type 0 where
  pub found : slice_get p.flows i ≡ Some flow
  pub cycle : IsOnCycle p i

-- the label of the lowest flow on a cycle that has a name; where all flows on cycles are without names, of the lowest
pub data IsCycleLabel (p : FlatProgram) : List ℕ → Type 0 where
  named : (i : ℕ) (flow : Flow) → IsCyclic p i flow → is_made flow.label ≡ false
      → ((j : ℕ) (other : Flow) → IsCyclic p j other → j < i → is_made other.label ≡ true) → IsCycleLabel p flow.label
  unnamed : (i : ℕ) (flow : Flow) → IsCyclic p i flow
      → ((j : ℕ) (other : Flow) → IsCyclic p j other → (i ≤ j) × (is_made other.label ≡ true)) → IsCycleLabel p flow.label
