-- How many jobs of each task a job depends on.
use Rattle.std.specs.Prelude.{◌≡◌, ◌+◌, ◌<◌, ℕ, List, length, slice_index}
use Rattle.prl_base.specs.declared.numbers.TaskNo.{TaskNo}
use Rattle.prl_plan.specs.declared.graphs.TaskGraph.{TaskGraph}
use Rattle.prl_ages.specs.Reaching.{Reaches}

-- By task, the number of its jobs up to the last one that reaches job k of task a; 0 where none does.
pub record AreNeeded (graph : TaskGraph) (chain : List TaskNo) (a k : ℕ) (counts : List ℕ) : Type 0 where
  pub long : length counts ≡ length graph.tasks
  pub reached : (t m : ℕ) → slice_index counts t ≡ m + 1 → Reaches graph chain t m a k
  pub within : (t m : ℕ) → Reaches graph chain t m a k → m < slice_index counts t
