-- How the ticks that jobs ask for fall on their tasks.
use Rattle.std.specs.Prelude.{◌*◌, ◌<◌, ◌≤◌, ℕ, List, length, slice_index}
use Rattle.prl_plan.specs.declared.graphs.TaskGraph.{TaskGraph}
use Rattle.prl_plan.specs.Horizons.{sum_below}
use Rattle.prl_plan.specs.Jobs.{task_at}

-- by task so many jobs: what those of task i cost together
abbrev pub cost_of : TaskGraph → List ℕ → ℕ → ℕ
cost_of graph counts i = slice_index counts i * (task_at graph i).wcet

-- what all of them cost together
abbrev pub cost_of_all : TaskGraph → List ℕ → ℕ
cost_of_all graph counts = sum_below (cost_of graph counts) (length graph.tasks)

-- the jobs of no task cost more than those of this one
pub record IsHeaviest (graph : TaskGraph) (counts : List ℕ) (i : ℕ) : Type 0 where
  pub task : i < length graph.tasks
  pub most : (j : ℕ) → j < length graph.tasks → cost_of graph counts j ≤ cost_of graph counts i
