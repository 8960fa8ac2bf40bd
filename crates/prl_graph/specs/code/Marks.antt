-- Flows that are marked: main's outputs; and dues that the first flows bind applications by.
use Rattle.std.specs.Prelude.{◌≡◌, ◌≤◌, ◌<◌, ◌⊎◌, ℕ, Bool, true, false, List, length, slice_index_or, Some, slice_get}
use Rattle.prl_base.specs.declared.operators.Clock.{Clock}
use Rattle.prl_flow.specs.declared.programs.App.{App}
use Rattle.prl_flow.specs.declared.programs.Flow.{Flow}
use Rattle.prl_flow.specs.Programs.{FlatProgram}
use Rattle.prl_graph.specs.Dues.{AllowsDue, BindsApplication, IsWithinPeriod, NotesDue}
use Rattle.prl_graph.specs.Tasks.{application_clock}

abbrev pub IsMarked : List Bool → ℕ → Type 0
IsMarked marks i = slice_index_or marks i false ≡ true

-- flow `i` is among the first `n` of main's outputs
abbrev pub IsEarlyOutput : FlatProgram → ℕ → ℕ → Type 0
IsEarlyOutput p n i = (k : ℕ) × (k < n) × (slice_get p.outs k ≡ Some (record { 0 = i }))

-- the marked flows are the first `n` of main's outputs
pub record AreMarked (p : FlatProgram) (n : ℕ) (marks : List Bool) : Type 0 where
  pub count : length marks ≡ length p.flows
  pub only : (i : ℕ) → IsMarked marks i → IsEarlyOutput p n i
  pub all : (i : ℕ) → IsEarlyOutput p n i → IsMarked marks i

-- the marked flows are main's outputs
abbrev pub AreOutputMarks : FlatProgram → List Bool → Type 0
AreOutputMarks p marks = AreMarked p (length p.outs) marks

-- this due on flow `i` binds this application, and no other due on it binds an application
pub record IsBinding (p : FlatProgram) (i k due : ℕ) : Type 0 where
  pub binds : BindsApplication p k i due
  pub only : (l other : ℕ) → BindsApplication p l i other → (l ≡ k) × (other ≡ due)

-- the least of the dues on the first `n` flows that bind application `k`, and of this period
pub record IsLeastOfFirst (p : FlatProgram) (n k period due : ℕ) : Type 0 where
  pub within : due ≤ period
  pub least : (i other : ℕ) → i < n → BindsApplication p k i other → due ≤ other
  pub attained : (due ≡ period) ⊎ ((i : ℕ) × BindsApplication p k i due)

-- one for each application
pub record AreLeastDues (p : FlatProgram) (clocks : List Clock) (n : ℕ) (dues : List ℕ) : Type 0 where
  pub count : length dues ≡ length p.apps
  pub each : (k : ℕ) (app : App) → slice_get p.apps k ≡ Some app →
      IsLeastOfFirst p n k (application_clock clocks app).period (slice_index_or dues k 0)

-- the application has a first output, and this has a clock
pub record HasClock (clocks : List Clock) (app : App) : Type 0 where
  pub some : 1 ≤ length app.outs
  pub within : (slice_index_or app.outs 0 (record { 0 = 0 })).0 < length clocks

-- a due on flow `i` may stand there; one does that may not
abbrev pub IsPlaced : FlatProgram → ℕ → Type 0
IsPlaced p i = (due : ℕ) → NotesDue p i due → AllowsDue p i

pub record IsMisplaced (p : FlatProgram) (i : ℕ) : Type 0 where
  pub due : ℕ
  pub notes : NotesDue p i due
  pub refused : AllowsDue p i → ⊥

-- a due on flow `i` is in its range; this one is not
abbrev pub IsRanged : FlatProgram → List Clock → ℕ → Type 0
IsRanged p clocks i = (due : ℕ) → NotesDue p i due → IsWithinPeriod clocks i due

pub record IsUnranged (p : FlatProgram) (clocks : List Clock) (i due : ℕ) : Type 0 where
  pub notes : NotesDue p i due
  pub refused : IsWithinPeriod clocks i due → ⊥

-- the label of flow `i`
pub record IsLabelOf (p : FlatProgram) (i : ℕ) (label : List ℕ) : Type 0 where
  pub flow : Flow
  pub found : slice_get p.flows i ≡ Some flow
  pub is : flow.label ≡ label
