-- A list of flows and their marks, and marks set for more flows.
use Rattle.std.specs.Prelude.{◌≡◌, ◌<◌, ◌≤◌, ◌⊎◌, ℕ, Bool, List, length, Some, slice_get}
use Rattle.prl_flow.specs.Programs.{FlatProgram}
use Rattle.prl_flow.specs.Uses.{IsArgument, Leads}
use Rattle.prl_causal.specs.code.Parts.{IsMarked, marked_count}

-- the marks are of the flows in the list, where each stands once
pub record IsList (reached : List ℕ) (marks : List Bool) : Type 0 where
  pub count : marked_count marks ≡ length reached
  pub marked : (k x : ℕ) → slice_get reached k ≡ Some x → IsMarked marks x
  pub listed : (i : ℕ) → IsMarked marks i → (k : ℕ) × (slice_get reached k ≡ Some i)

-- the named flows come to the list, and no other
pub record Adds (Named : ℕ → Type 0) (reached reached' : List ℕ) (marks marks' : List Bool) : Type 0 where
  pub list : IsList reached' marks'
  pub same : length marks' ≡ length marks
  pub stays : (k x : ℕ) → slice_get reached k ≡ Some x → slice_get reached' k ≡ Some x
  pub kept : (i : ℕ) → IsMarked marks i → IsMarked marks' i
  pub only : (i : ℕ) → IsMarked marks' i → IsMarked marks i ⊎ Named i
  pub all : (i : ℕ) → Named i → IsMarked marks' i

-- A search from a flow: uses lead from it to what is marked, and what it and the first `done` flows of the list use is marked.
pub record IsUnderWay (U : ℕ → ℕ → Type 0) (n from done : ℕ) (reached : List ℕ) (marks : List Bool) : Type 0 where
  pub list : IsList reached marks
  pub len : length marks ≡ n
  pub few : done ≤ length reached
  pub led : (i : ℕ) → IsMarked marks i → Leads U from i
  pub first : (i : ℕ) → U from i → IsMarked marks i
  pub closed : (k x : ℕ) → k < done → slice_get reached k ≡ Some x → (i : ℕ) → U x i → IsMarked marks i

-- the arguments of each application with a mark of its own have their marks
pub record AreOpened (p : FlatProgram) (marks opened : List Bool) : Type 0 where
  pub marked : (k : ℕ) → IsMarked opened k → (i : ℕ) → IsArgument p k i → IsMarked marks i

-- what a search keeps while it goes on: the flows that are reached, and the applications whose arguments are
pub record IsSearch (p : FlatProgram) (reached : List ℕ) (marks looked : List Bool) : Type 0 where
  pub list : IsList reached marks
  pub len : length marks ≡ length p.flows
  pub apps : length looked ≡ length p.apps
  pub opened : AreOpened p marks looked
