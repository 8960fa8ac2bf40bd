-- Chains of jobs, each preceding the next, and what they need.
use Rattle.std.specs.Prelude.{◌≡◌, ◌+◌, ◌≤◌, ◌<◌, ℕ, ℤ, pos, ◌+ℤ◌, ◌≤ℤ◌, ◌<ℤ◌, List, [], ◌∷◌, length}
use Rattle.prl_plan.specs.declared.graphs.TaskGraph.{TaskGraph}
use Rattle.prl_plan.specs.Jobs.{Job, task_at, release_of, deadline_of}
use Rattle.prl_plan.specs.Precedence.{Precedes}

-- a first job and the jobs after it: each is of a task of the graph and precedes the next
abbrev pub IsChain : TaskGraph → Job → List Job → Type 0
IsChain graph first [] = first.task < length graph.tasks
IsChain graph first (next ∷ rest) = (first.task < length graph.tasks) × Precedes graph first next × IsChain graph next rest

-- the job that a chain ends in
abbrev pub last_of : Job → List Job → Job
last_of first [] = first
last_of first (next ∷ rest) = last_of next rest

-- the sum of the WCETs of its jobs, in ticks
abbrev pub wcets_of : TaskGraph → Job → List Job → ℕ
wcets_of graph first [] = (task_at graph first.task).wcet
wcets_of graph first (next ∷ rest) = (task_at graph first.task).wcet + wcets_of graph next rest

-- when the last job can have ended at the earliest: the release of the first one, and then all WCETs
abbrev pub needs_of : TaskGraph → Job → List Job → ℤ
needs_of graph first rest = release_of (task_at graph first.task) first.number +ℤ pos (wcets_of graph first rest)

-- the chain needs longer than its last job has
pub record IsNarrow (graph : TaskGraph) (first : Job) (rest : List Job) : Type 0 where
  pub chain : IsChain graph first rest
  pub late : deadline_of (task_at graph (last_of first rest).task) (last_of first rest).number <ℤ needs_of graph first rest

-- a chain of at most so many jobs that ends in the job
pub record EndsIn (graph : TaskGraph) (most : ℕ) (job first : Job) (rest : List Job) : Type 0 where
  pub chain : IsChain graph first rest
  pub few : length rest + 1 ≤ most
  pub last : last_of first rest ≡ job

-- the best of a job over chains of at most so many jobs: one of them needs so long, and none needs longer
pub record IsBest (graph : TaskGraph) (most : ℕ) (job : Job) (needs : ℤ) : Type 0 where
  pub attained : (first : Job) × (rest : List Job) × EndsIn graph most job first rest × (needs_of graph first rest ≡ needs)
  pub none_above : (first : Job) (rest : List Job) → EndsIn graph most job first rest → needs_of graph first rest ≤ℤ needs
