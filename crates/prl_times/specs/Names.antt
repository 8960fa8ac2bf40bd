-- Lists of tasks.
use Rattle.std.specs.Prelude.{◌<◌, ◌==◌, ◌||◌, ℕ, Bool, false, List, [], ◌∷◌, All, length}
use Rattle.prl_base.specs.declared.numbers.TaskNo.{TaskNo}
use Rattle.prl_plan.specs.declared.graphs.TaskGraph.{TaskGraph}

-- a task is one of these, and one stands twice among them
abbrev pub is_one_of : ℕ → List TaskNo → Bool
is_one_of i [] = false
is_one_of i (task ∷ tasks) = (task.0 == i) || is_one_of i tasks

abbrev pub has_twice : List TaskNo → Bool
has_twice [] = false
has_twice (task ∷ tasks) = is_one_of task.0 tasks || has_twice tasks

-- all are tasks of the graph
abbrev pub AreOfPlan : TaskGraph → List TaskNo → Type 0
AreOfPlan graph tasks = All (λ task. task.0 < length graph.tasks) tasks
