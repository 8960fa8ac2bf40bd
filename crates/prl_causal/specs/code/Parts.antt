-- Flows put in order one by one: which are placed, and where; and an order of all.
use Rattle.std.specs.Prelude.{◌≡◌, ◌<◌, ℕ, Bool, true, false, List, length, Some, slice_get, slice_index_or, count_by}
use Rattle.prl_base.specs.declared.numbers.FlowNo.{FlowNo}
use Rattle.prl_flow.specs.declared.programs.App.{App}
use Rattle.prl_flow.specs.declared.programs.Arg.{Arg}
use Rattle.prl_flow.specs.Programs.{FlatProgram}

-- the mark of number `i` is set
abbrev pub IsMarked : List Bool → ℕ → Type 0
IsMarked marks i = slice_index_or marks i false ≡ true

-- how many marks are set
abbrev pub marked_count : List Bool → ℕ
marked_count = count_by (λ b. b)

-- Each flow of the list stands in it once, after those that it uses; the marks are of the flows in the list.
pub record IsPart (U : ℕ → ℕ → Type 0) (order : List FlowNo) (placed : List Bool) : Type 0 where
  pub count : marked_count placed ≡ length order
  pub marked : (k : ℕ) (x : FlowNo) → slice_get order k ≡ Some x → IsMarked placed x.0
  pub listed : (i : ℕ) → IsMarked placed i → (k : ℕ) × (slice_get order k ≡ Some (record { 0 = i }))
  pub once : (j k : ℕ) (x : FlowNo) → slice_get order j ≡ Some x → slice_get order k ≡ Some x → j ≡ k
  pub after : (k : ℕ) (x : FlowNo) (y : ℕ) → slice_get order k ≡ Some x → U x.0 y → (j : ℕ) × (j < k) × (slice_get order j ≡ Some (record { 0 = y }))

-- each flow below this number, once, after those that it uses
pub record IsWhole (U : ℕ → ℕ → Type 0) (n : ℕ) (order : List FlowNo) : Type 0 where
  pub count : length order ≡ n
  pub each : (i : ℕ) → i < n → (k : ℕ) × (slice_get order k ≡ Some (record { 0 = i }))
  pub once : (j k : ℕ) (x : FlowNo) → slice_get order j ≡ Some x → slice_get order k ≡ Some x → j ≡ k
  pub after : (k : ℕ) (x : FlowNo) (y : ℕ) → slice_get order k ≡ Some x → U x.0 y → (j : ℕ) × (j < k) × (slice_get order j ≡ Some (record { 0 = y }))

-- this flow is one of these, and without its mark
pub record IsMissing (Named : ℕ → Type 0) (marks : List Bool) (flow : FlowNo) : Type 0 where
  pub named : Named flow.0
  pub unmarked : slice_index_or marks flow.0 false ≡ false

-- the argument of this index is without its mark
pub record IsUnplaced (args : List Arg) (marks : List Bool) (n : ℕ) : Type 0 where
  pub arg : Arg
  pub found : slice_get args n ≡ Some arg
  pub unmarked : slice_index_or marks arg.flow.0 false ≡ false

-- the first `n` of the arguments have their marks
abbrev pub ArePlaced : List Arg → List Bool → ℕ → Type 0
ArePlaced args marks n = (j : ℕ) → j < n → (arg : Arg) → slice_get args j ≡ Some arg → IsMarked marks arg.flow.0

-- of each application, so many of the first arguments have their marks
pub record AreSeen (p : FlatProgram) (marks : List Bool) (seen : List ℕ) : Type 0 where
  pub placed : (k : ℕ) (app : App) → slice_get p.apps k ≡ Some app → ArePlaced app.args marks (slice_index_or seen k 0)
