-- After how many hyperperiods each job of a task depends on another task.
use Rattle.std.specs.Prelude.{◌≡◌, ◌+◌, ◌*◌, ◌<◌, ◌≤◌, ℕ, Bool, true, List, Option, Some, None, length, slice_index_or, sum_by}
use Rattle.std.specs.Bool.{OnTrue, OnFalse}
use Rattle.prl_base.specs.declared.numbers.TaskNo.{TaskNo}
use Rattle.prl_plan.specs.declared.graphs.TaskGraph.{TaskGraph}
use Rattle.prl_plan.specs.declared.limits.TheConstants.{MAX_PREFIX}
use Rattle.prl_plan.specs.Vocabulary.{ComesFrom, IsFirstReader, edge_at}
use Rattle.prl_ages.specs.Chains.{is_along}
use Rattle.prl_ages.specs.Reaching.{Reaches, jobs_of}

-- So many hyperperiods, and x more, after the first job of task a, each job of it depends on a job of task t that stands at
-- least x hyperperiods after the first of its task.
pub record IsLag (graph : TaskGraph) (chain : List TaskNo) (a t lag : ℕ) : Type 0 where
  pub reaches : (x n : ℕ) → (lag + x) * jobs_of graph a ≤ n → (j : ℕ) × (x * jobs_of graph t ≤ j) × Reaches graph chain t j a n

-- within so many hyperperiods the consumer of an edge has read all the constants that come first on it
pub record CoversConstants (graph : TaskGraph) (e turns : ℕ) : Type 0 where
  pub first : ℕ
  pub reader : IsFirstReader (edge_at graph e).ops first
  pub within : first ≤ turns * jobs_of graph (edge_at graph e).to.0

-- the lag of a task, where it is known
abbrev pub lag_at : List (Option ℕ) → ℕ → Option ℕ
lag_at lags t = slice_index_or lags t None

abbrev pub HasLag : List (Option ℕ) → ℕ → Type 0
HasLag lags t = (lag : ℕ) × (lag_at lags t ≡ Some lag)

-- how many tasks have no lag yet
abbrev pub missing : Option ℕ → ℕ
missing None = 1
missing (Some lag) = 0

abbrev pub missing_in : List (Option ℕ) → ℕ
missing_in lags = sum_by missing lags

-- the lags known are lags, and each is small for the number of tasks that have one
pub record AreLags (graph : TaskGraph) (chain : List TaskNo) (a : ℕ) (lags : List (Option ℕ)) : Type 0 where
  pub long : length lags ≡ length graph.tasks
  pub own : HasLag lags a
  pub each : (t lag : ℕ) → lag_at lags t ≡ Some lag → IsLag graph chain a t lag
  pub few : (t lag : ℕ) → lag_at lags t ≡ Some lag → lag + missing_in lags * MAX_PREFIX ≤ length graph.tasks * MAX_PREFIX

-- where the consumer of edge e has a lag, the producer has one, if the edge counts
abbrev pub IsKnownOn : TaskGraph → List TaskNo → List (Option ℕ) → ℕ → Type 0
IsKnownOn graph chain lags e = (i : ℕ) → ComesFrom (edge_at graph e).from i → is_along chain i (edge_at graph e).to.0 ≡ true → HasLag lags (edge_at graph e).to.0 → HasLag lags i

-- After a round over the first e edges: unless a lag came, the lags are as they were, and known on these edges.
pub record IsSpreading (graph : TaskGraph) (chain : List TaskNo) (a : ℕ) (old : List (Option ℕ)) (e : ℕ) (lags : List (Option ℕ)) (came : Bool) : Type 0 where
  pub are : AreLags graph chain a lags
  pub falls : OnTrue came (missing_in lags < missing_in old)
  pub same : OnFalse came (lags ≡ old)
  pub known : OnFalse came ((before : ℕ) → before < e → IsKnownOn graph chain old before)

-- The lags of all tasks: each is one, and a task without one reaches no job of task a.
pub record AreAllLags (graph : TaskGraph) (chain : List TaskNo) (a : ℕ) (lags : List (Option ℕ)) : Type 0 where
  pub long : length lags ≡ length graph.tasks
  pub each : (t lag : ℕ) → lag_at lags t ≡ Some lag → IsLag graph chain a t lag
  pub few : (t lag : ℕ) → lag_at lags t ≡ Some lag → lag ≤ length graph.tasks * MAX_PREFIX
  pub never : (t : ℕ) → lag_at lags t ≡ None → (m k : ℕ) → Reaches graph chain t m a k → ⊥
