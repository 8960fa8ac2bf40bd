-- The relative deadlines that flows of a flat program note, and which tasks they bind.
use Rattle.std.specs.Prelude.{◌≡◌, ◌≤◌, ◌<◌, ◌⊎◌, ℕ, List, Some, slice_get}
use Rattle.prl_base.specs.declared.numbers.FlowNo.{FlowNo}
use Rattle.prl_base.specs.declared.operators.Clock.{Clock}
use Rattle.prl_flow.specs.declared.programs.Def.TheVariants as definitions
use Rattle.prl_flow.specs.declared.programs.Flow.{Flow}
use Rattle.prl_flow.specs.Programs.{FlatProgram, IsOutput}
use Rattle.prl_flow.specs.Solutions.{clock_of}

-- flow `i` is main's input, or main's output
abbrev pub IsMainInput : FlatProgram → ℕ → Type 0
IsMainInput p i = (k : ℕ) × (slice_get p.ins k ≡ Some (record { 0 = i }))

abbrev pub IsMainOutput : FlatProgram → ℕ → Type 0
IsMainOutput p i = (k : ℕ) × (slice_get p.outs k ≡ Some (record { 0 = i }))

-- flow `i` notes this due
pub record NotesDue (p : FlatProgram) (i due : ℕ) : Type 0 where
  pub flow : Flow
  pub found : slice_get p.flows i ≡ Some flow
  pub noted : flow.due ≡ Some due

-- flow `i` copies an output of application `k`
pub record CopiesOutput (p : FlatProgram) (i k : ℕ) : Type 0 where
  pub flow : Flow
  pub found : slice_get p.flows i ≡ Some flow
  pub of : FlowNo
  pub copies : flow.def ≡ definitions.Copy of
  pub out : ℕ
  pub output : IsOutput p k out of

-- a due may stand on flow `i`: it is main's input or output, or copies an output of an application
pub data AllowsDue (p : FlatProgram) (i : ℕ) : Type 0 where
  input : IsMainInput p i → AllowsDue p i
  output : IsMainOutput p i → AllowsDue p i
  copy : (k : ℕ) → CopiesOutput p i k → AllowsDue p i

-- the due on flow `i` binds application `k`: on main's output it binds the actuator alone
pub record BindsApplication (p : FlatProgram) (k i due : ℕ) : Type 0 where
  pub notes : NotesDue p i due
  pub copies : CopiesOutput p i k
  pub local : IsMainOutput p i → ⊥

-- the least of the dues that bind application `k`, and of this period
pub record IsLeastDue (p : FlatProgram) (k period due : ℕ) : Type 0 where
  pub within : due ≤ period
  pub least : (i other : ℕ) → BindsApplication p k i other → due ≤ other
  pub attained : (due ≡ period) ⊎ ((i : ℕ) × BindsApplication p k i due)

-- a due on flow `i` lies between 1 and the flow's period
abbrev pub IsWithinPeriod : List Clock → ℕ → ℕ → Type 0
IsWithinPeriod clocks i due = (1 ≤ due) × (due ≤ (clock_of clocks i).period)

-- each due stands where it may
abbrev pub AreDuesAllowed : FlatProgram → Type 0
AreDuesAllowed p = (i due : ℕ) → NotesDue p i due → AllowsDue p i

-- each due is in its range
abbrev pub AreDuesInRange : FlatProgram → List Clock → Type 0
AreDuesInRange p clocks = (i due : ℕ) → NotesDue p i due → IsWithinPeriod clocks i due

-- the lowest flow with a due that may not stand there has this label
pub record IsDueOnNonTask (p : FlatProgram) (label : List ℕ) : Type 0 where
  pub index : ℕ
  pub due : ℕ
  pub notes : NotesDue p index due
  pub named : notes.flow.label ≡ label
  pub refused : AllowsDue p index → ⊥
  pub lowest : (i other : ℕ) → i < index → NotesDue p i other → AllowsDue p i

-- the lowest flow with a due out of its range has this label, due and period
pub record IsDueOutOfRange (p : FlatProgram) (clocks : List Clock) (label : List ℕ) (due period : ℕ) : Type 0 where
  pub index : ℕ
  pub notes : NotesDue p index due
  pub named : notes.flow.label ≡ label
  pub period_is : (clock_of clocks index).period ≡ period
  pub refused : IsWithinPeriod clocks index due → ⊥
  pub lowest : (i other : ℕ) → i < index → NotesDue p i other → IsWithinPeriod clocks i other
