-- A task whose jobs need more time than they have, each alone.
use Rattle.std.specs.Prelude.{◌<◌, ◌++◌, ℕ, List, codes, decimal, length}
use Rattle.prl_plan.specs.declared.graphs.Task.{Task}
use Rattle.prl_plan.specs.declared.graphs.TaskGraph.{TaskGraph}
use Rattle.prl_plan.specs.Jobs.{task_at}
use Rattle.prl_overloads.specs.ShareTexts.{numbered}

-- its WCET is above its due
pub record IsTooLong (graph : TaskGraph) (i : ℕ) : Type 0 where
  pub task : i < length graph.tasks
  pub longer : (task_at graph i).due < (task_at graph i).wcet

unfoldable pub needs_text : Task → List ℕ
needs_text task = codes "A job of `" ++ task.name ++ codes "` takes " ++ decimal task.wcet

unfoldable pub room_text : Task → List ℕ
room_text task = numbered (codes " ticks, and has to end ") task.due (codes " after its release")

unfoldable pub none_text : Task → List ℕ
none_text task = numbered (codes ": none can. Make its wcet ") task.due (codes " or less")

unfoldable pub less_text : Task → List ℕ
less_text task = numbered (codes ", or its due and its period ") task.wcet (codes " or more.\n")

unfoldable pub mend_text : Task → List ℕ
mend_text task = none_text task ++ less_text task

-- what its jobs take, what they have, and what would mend it
unfoldable pub long_text : Task → List ℕ
long_text task = needs_text task ++ room_text task ++ mend_text task
