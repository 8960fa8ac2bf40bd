-- A bar for each task, as long as its WCET is of its period.
use Rattle.std.specs.Prelude.{◌*◌, ◌/◌, ℕ, List, length, max}
use Rattle.std.specs.List.{flat_map, range_with_len}
use Rattle.prl_drawing.specs.Boxes.{coloured_text}
use Rattle.prl_drawing.specs.Rows.{row_of}
use Rattle.prl_drawing.specs.declared.scales.TheConstants.{LEFT, WIDTH}
use Rattle.prl_plan.specs.declared.graphs.Task.{Task}
use Rattle.prl_plan.specs.declared.graphs.TaskGraph.{TaskGraph}
use Rattle.prl_plan.specs.Jobs.{task_at}
use Rattle.example_drawing.specs.declared.bars.TheConstants.{HEIGHT}

-- how long the bar of a task is
abbrev pub share_of : Task → ℕ
share_of task = task.wcet * WIDTH / max task.clock.period 1

abbrev pub bar_text : TaskGraph → ℕ → List ℕ
bar_text graph i = coloured_text i LEFT (row_of i) (share_of (task_at graph i)) HEIGHT

-- the bars of all tasks, one below another
abbrev pub bars_text : TaskGraph → List ℕ
bars_text graph = flat_map (bar_text graph) (range_with_len 0 (length graph.tasks))
