-- Jobs of periodic tasks.
use Rattle.std.specs.Prelude.{◌+◌, ◌-◌, ◌/◌, ◌<◌, ℕ, ℤ, pos, ◌+ℤ◌, ◌*ℤ◌, ◌<ℤ◌, [], length, slice_index_or}
use Rattle.prl_plan.specs.declared.graphs.Task.{Task}
use Rattle.prl_plan.specs.declared.graphs.TaskGraph.{TaskGraph}
use Rattle.prl_plan.specs.declared.graphs.Kind.TheVariants as kinds

-- a job: a task, by its place in the list of tasks, and the job's number, which may be any whole number
pub record Job : Type 0 where
  pub task : ℕ
  pub number : ℤ

-- stands where there is no task
abbrev pub no_task : Task
no_task = record { name = []; kind = kinds.Sensor 0; clock = record { period = 1; start = 0 }; wcet = 1; due = 1 }

abbrev pub task_at : TaskGraph → ℕ → Task
task_at graph i = slice_index_or graph.tasks i no_task

-- when job m of a task is released, in ticks
abbrev pub release_of : Task → ℤ → ℤ
release_of task m = pos task.clock.start +ℤ (m *ℤ pos task.clock.period)

-- by when it is to have ended
abbrev pub deadline_of : Task → ℤ → ℤ
deadline_of task m = release_of task m +ℤ pos task.due

-- a job of the horizon: numbered from 0, of a task of the graph, and released before `until`
pub record IsHorizonJob (graph : TaskGraph) (until : ℕ) (i m : ℕ) : Type 0 where
  pub task : i < length graph.tasks
  pub early : release_of (task_at graph i) (pos m) <ℤ pos until

-- how many jobs of a task are released before `until`
abbrev pub job_count : Task → ℕ → ℕ
job_count task until = (until - task.clock.start + (task.clock.period - 1)) / task.clock.period
