-- The names of tasks.
use Rattle.std.specs.Prelude.{◌++◌, ℕ, List, [], ◌∷◌, codes}
use Rattle.prl_base.specs.declared.numbers.TaskNo.{TaskNo}
use Rattle.prl_plan.specs.declared.graphs.TaskGraph.{TaskGraph}
use Rattle.prl_plan.specs.Vocabulary.{task_at}

abbrev pub name_at : TaskGraph → TaskNo → List ℕ
name_at graph task = (task_at graph task.0).name

-- the names of some tasks, with commas between them
abbrev pub names_joined : TaskGraph → List TaskNo → List ℕ
names_joined graph [] = []
names_joined graph (task ∷ []) = name_at graph task
names_joined graph (task ∷ (next ∷ tasks)) = name_at graph task ++ codes "," ++ names_joined graph (next ∷ tasks)
