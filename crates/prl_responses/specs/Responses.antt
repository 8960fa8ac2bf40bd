-- How soon the jobs of a task end in a run.
use Rattle.std.specs.Prelude.{◌≡◌, ◌+◌, ◌≤◌, ℕ, List, Option, Some, None, slice_index_or}
use Rattle.prl_plan.specs.declared.graphs.TaskGraph.{TaskGraph}
use Rattle.prl_ages.specs.Ages.{released, due_by}
use Rattle.prl_responses.specs.declared.responses.Times.{Times}

-- tick t is the last that goes to job n of task i, so that the job ends with it
pub record IsLastTick (run : ℕ → Option (ℕ × ℕ)) (i n t : ℕ) : Type 0 where
  pub goes : run t ≡ Some (i, n)
  pub last : (u : ℕ) → run u ≡ Some (i, n) → u ≤ t

-- The worst response, from the release of a job until its end: no job of the task takes longer, and this one takes as long. And
-- the least slack, from the end of a job until its deadline: none has less, and this one has as little.
pub record AreTimes (graph : TaskGraph) (run : ℕ → Option (ℕ × ℕ)) (i : ℕ) (times : Times) : Type 0 where
  pub response : (n t : ℕ) → IsLastTick run i n t → t + 1 ≤ released graph i n + times.response
  pub slowest : (t : ℕ) × IsLastTick run i times.slowest t × (t + 1 ≡ released graph i times.slowest + times.response)
  pub slack : (n t : ℕ) → IsLastTick run i n t → t + 1 + times.slack ≤ due_by graph i n
  pub tightest : (t : ℕ) × IsLastTick run i times.tightest t × (t + 1 + times.slack ≡ due_by graph i times.tightest)

abbrev pub times_at : List (Option Times) → ℕ → Option Times
times_at list i = slice_index_or list i None

-- none where the run has no job of the task
abbrev pub IsTimesOf : TaskGraph → (ℕ → Option (ℕ × ℕ)) → ℕ → Option Times → Type 0
IsTimesOf graph run i None = (n t : ℕ) → run t ≡ Some (i, n) → ⊥
IsTimesOf graph run i (Some times) = AreTimes graph run i times
