-- The tasks that have a row: all, or one with those that an edge connects with it.
use Rattle.std.specs.Prelude.{◌==◌, ◌&&◌, ◌||◌, ℕ, Bool, false, List, [], ◌∷◌, length, if◌then◌else◌}
use Rattle.std.specs.List.{flat_map, range_with_len}
use Rattle.prl_plan.specs.declared.graphs.Edge.{Edge}
use Rattle.prl_plan.specs.declared.graphs.Producer.{Producer}
use Rattle.prl_plan.specs.declared.graphs.Producer.TheVariants as producers
use Rattle.prl_plan.specs.declared.graphs.TaskGraph.{TaskGraph}

-- the producer is this task
abbrev pub is_task : Producer → ℕ → Bool
is_task (producers.Port task out) i = task.0 == i
is_task (producers.Constant value) i = false

-- one of the two tasks reads from the other on the edge
abbrev pub connects : ℕ → ℕ → Edge → Bool
connects i j edge = (is_task edge.from i && (edge.to.0 == j)) || (is_task edge.from j && (edge.to.0 == i))

-- one of these edges connects them
abbrev pub connect_any : ℕ → ℕ → List Edge → Bool
connect_any i j [] = false
connect_any i j (edge ∷ edges) = connects i j edge || connect_any i j edges

-- it is the task, or one that an edge connects with it
abbrev pub is_near : TaskGraph → ℕ → ℕ → Bool
is_near graph i j = (i == j) || connect_any i j graph.edges

-- a task, where it is that one or near it
abbrev pub near_one : TaskGraph → ℕ → ℕ → List ℕ
near_one graph i j = if is_near graph i j then j ∷ [] else []

-- the task of this number and those that edges connect with it, in order
abbrev pub near_rows : TaskGraph → ℕ → List ℕ
near_rows graph i = flat_map (near_one graph i) (range_with_len 0 (length graph.tasks))

-- all tasks, in order
abbrev pub all_rows : TaskGraph → List ℕ
all_rows graph = range_with_len 0 (length graph.tasks)
