-- Where the jobs of a hyperperiod stand in a table: task after task, each in the order of its jobs.
use Rattle.std.specs.Prelude.{◌+◌, ℕ, zero, suc, ℤ, pos, ◌+ℤ◌, List, slice_index}
use Rattle.prl_plan.specs.declared.graphs.TaskGraph.{TaskGraph}
use Rattle.prl_plan.specs.Dates.{Family, place_in}
use Rattle.prl_plan.specs.Jobs.{task_at, release_of}
use Rattle.prl_dates.specs.Faults.{jobs_of}

-- how many jobs the first so many tasks have in a hyperperiod
abbrev pub jobs_before : TaskGraph → ℕ → ℕ
jobs_before graph zero = 0
jobs_before graph (suc i) = jobs_before graph i + jobs_of graph i

abbrev pub index_of : TaskGraph → ℕ → ℤ → ℕ
index_of graph i m = jobs_before graph i + place_in m (jobs_of graph i)

-- the dates that a table tells: so many ticks after the releases
abbrev pub dates_of : TaskGraph → List ℕ → Family
dates_of graph table i m = release_of (task_at graph i) m +ℤ pos (slice_index table (index_of graph i m))
