-- What is left of a run, as a number: it serves to show that runs end.
use Rattle.std.specs.Prelude.{◌+◌, ◌*◌, ◌-◌, ℕ, slice_index}
use Rattle.prl_plan.specs.Horizons.{sum_below}
use Rattle.prl_plan.specs.Runs.{RunConstants, ExecState}

-- more than a job has actions
abbrev pub many : ℕ
many = 4294967296

-- of task i: its jobs that are left, each counted for more than its actions, less the actions that the next one has done
abbrev pub left_of : RunConstants → ExecState → ℕ → ℕ
left_of c s i = (c.jobs i - slice_index s.ended i) * (many + 1) + (many - slice_index s.places i)

-- of all tasks, and the ticks that are left
abbrev pub left_in : RunConstants → ExecState → ℕ
left_in c s = (c.end - s.now) + sum_below (left_of c s) c.tasks
