-- How soon the jobs of a task end in a run, piece by piece.
use Rattle.std.specs.Prelude.{◌≡◌, ◌+◌, ◌<◌, ◌≤◌, ◌^◌, ℕ, List, Option, Some, None, nat_lt, length, slice_get, if◌then◌else◌}
use Rattle.prl_edf.specs.declared.pieces.Piece.{Piece}
use Rattle.prl_plan.specs.declared.graphs.TaskGraph.{TaskGraph}
use Rattle.prl_ages.specs.Ages.{released, due_by}
use Rattle.prl_responses.specs.Responses.{times_at}
use Rattle.prl_responses.specs.declared.responses.Times.{Times}

-- a piece lies within the window of its job
pub record FitsOwn (graph : TaskGraph) (piece : Piece) : Type 0 where
  pub task : piece.task.0 < length graph.tasks
  pub begins : released graph piece.task.0 piece.job ≤ piece.to
  pub ends : piece.to ≤ due_by graph piece.task.0 piece.job
  pub small : due_by graph piece.task.0 piece.job < 2 ^ 63

abbrev pub AllFitOwn : TaskGraph → List Piece → Type 0
AllFitOwn graph pieces = (k : ℕ) (piece : Piece) → slice_get pieces k ≡ Some piece → FitsOwn graph piece

-- a piece of task i among the first ones
pub record IsPieceOf (pieces : List Piece) (count i : ℕ) (piece : Piece) : Type 0 where
  pub number : ℕ
  pub below : number < count
  pub at : slice_get pieces number ≡ Some piece
  pub task : piece.task.0 ≡ i

-- the times of task i over these pieces
pub record AreTimesOver (graph : TaskGraph) (pieces : List Piece) (count i : ℕ) (times : Times) : Type 0 where
  pub response : (piece : Piece) → IsPieceOf pieces count i piece → piece.to ≤ released graph i piece.job + times.response
  pub slowest : (piece : Piece) × IsPieceOf pieces count i piece × (piece.job ≡ times.slowest) × (piece.to ≡ released graph i times.slowest + times.response)
  pub slack : (piece : Piece) → IsPieceOf pieces count i piece → piece.to + times.slack ≤ due_by graph i piece.job
  pub tightest : (piece : Piece) × IsPieceOf pieces count i piece × (piece.job ≡ times.tightest) × (piece.to + times.slack ≡ due_by graph i times.tightest)

abbrev pub IsTimesOver : TaskGraph → List Piece → ℕ → ℕ → Option Times → Type 0
IsTimesOver graph pieces count i None = (piece : Piece) → IsPieceOf pieces count i piece → ⊥
IsTimesOver graph pieces count i (Some times) = AreTimesOver graph pieces count i times

-- by task, the times over the first pieces
pub record AreAllTimes (graph : TaskGraph) (pieces : List Piece) (count : ℕ) (list : List (Option Times)) : Type 0 where
  pub long : length list ≡ length graph.tasks
  pub each : (i : ℕ) → i < length graph.tasks → IsTimesOver graph pieces count i (times_at list i)

-- the times with those of one job more: it ends so late after its release, and so long before its deadline
abbrev pub slower : Times → ℕ → ℕ → Times
slower times response job =
    if nat_lt times.response response then record times { response = response; slowest = job } else times

abbrev pub tighter : Times → ℕ → ℕ → Times
tighter times slack job =
    if nat_lt slack times.slack then record times { slack = slack; tightest = job } else times

abbrev pub with_job : Option Times → ℕ → ℕ → ℕ → Option Times
with_job None response slack job = Some (record { response = response; slowest = job; slack = slack; tightest = job })
with_job (Some times) response slack job = Some (tighter (slower times response job) slack job)
