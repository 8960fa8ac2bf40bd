-- The task whose jobs may take longest.
use Rattle.std.specs.Prelude.{◌<◌, ◌≤◌, ℕ, length}
use Rattle.prl_plan.specs.declared.graphs.TaskGraph.{TaskGraph}
use Rattle.prl_plan.specs.Jobs.{task_at}

-- it is a task of the graph, and none has a higher WCET
pub record IsLongest (graph : TaskGraph) (i : ℕ) : Type 0 where
  pub inside : i < length graph.tasks
  pub longest : (k : ℕ) → k < length graph.tasks → (task_at graph k).wcet ≤ (task_at graph i).wcet
