-- Which samples a job's value can show.
use Rattle.std.specs.Prelude.{◌≡◌, ◌+◌, ◌≤◌, ℕ, [], slice_get}
use Rattle.prl_flow.specs.Rows.{Rows, rows_of}
use Rattle.prl_plan.specs.declared.graphs.Kind.TheVariants as kinds
use Rattle.prl_plan.specs.declared.graphs.TaskGraph.{TaskGraph}
use Rattle.prl_plan.specs.Vocabulary.{task_at}
use Rattle.prl_ages.specs.Reaching.{Takes, IsFreshest}

-- Instance m of task s feeds job n of task t: as it reaches it, along operands, or through what the task keeps in registers
-- from its job before.
pub data Feeds (graph : TaskGraph) (s m : ℕ) : ℕ → ℕ → Type 0 where
  itself : (t n : ℕ) → t ≡ s → n ≡ m → Feeds graph s m t n
  through : (t n i j : ℕ) → Takes graph [] t n i j → Feeds graph s m i j → Feeds graph s m t n
  kept : (t n : ℕ) → Feeds graph s m t n → Feeds graph s m t (n + 1)

-- two inputs have the same samples that feed job n of task i
abbrev pub AgreeOnFeeding : TaskGraph → Rows → Rows → ℕ → ℕ → Type 0
AgreeOnFeeding graph rows other i n =
    (s k m : ℕ) → (task_at graph s).kind ≡ kinds.Sensor k → Feeds graph s m i n → slice_get (rows_of rows k) m ≡ slice_get (rows_of other k) m

-- two inputs have the same samples of each sensor up to the latest that reaches job n of task i
abbrev pub AgreeUpToFreshest : TaskGraph → Rows → Rows → ℕ → ℕ → Type 0
AgreeUpToFreshest graph rows other i n =
    (s k f m : ℕ) → (task_at graph s).kind ≡ kinds.Sensor k → IsFreshest graph [] s f i n → m ≤ f → slice_get (rows_of rows k) m ≡ slice_get (rows_of other k) m
