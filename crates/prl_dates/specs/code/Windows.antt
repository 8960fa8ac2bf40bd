-- Lists of windows, and the shortest that repeat as they do.
use Rattle.std.specs.Prelude.{◌≡◌, ◌+◌, ◌-◌, ◌%◌, ◌<◌, ◌≤◌, ℕ, List, [], length, slice_index, slice_index_or}
use Rattle.prl_plan.specs.declared.graphs.TaskGraph.{TaskGraph}
use Rattle.prl_plan.specs.declared.tables.Window.{Window}
use Rattle.prl_plan.specs.Dates.{no_window}
use Rattle.prl_plan.specs.Jobs.{task_at}
use Rattle.prl_plan.specs.Repeats.{IsShortestRepeat}
use Rattle.prl_dates.specs.Faults.{jobs_of}
use Rattle.prl_dates.specs.code.Indices.{jobs_before}

-- the window that the tables tell for an index of task i
abbrev pub window_of : TaskGraph → ℕ → List ℕ → List ℕ → ℕ → Window
window_of graph i bests tails index = record { lead = slice_index bests index - (task_at graph i).wcet; tail = slice_index tails index }

-- the shortest list of windows of task i
pub record AreWindowsOf (graph : TaskGraph) (bests tails : List ℕ) (i : ℕ) (list : List Window) : Type 0 where
  pub some : 1 ≤ length list
  pub divides : jobs_of graph i % length list ≡ 0
  pub each : (p : ℕ) → p < jobs_of graph i → slice_index_or list (p % length list) no_window ≡ window_of graph i bests tails (jobs_before graph i + p)
  pub short : IsShortestRepeat list

-- a list for each of the first `count` tasks
pub record AreWindows (graph : TaskGraph) (bests tails : List ℕ) (count : ℕ) (windows : List (List Window)) : Type 0 where
  pub long : length windows ≡ count
  pub each : (i : ℕ) → i < count → AreWindowsOf graph bests tails i (slice_index_or windows i [])
