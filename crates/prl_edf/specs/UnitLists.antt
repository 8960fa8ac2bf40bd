-- Units as lists: by task, and by job.
use Rattle.std.specs.Prelude.{◌≡◌, ◌<◌, ℕ, List, [], length, slice_index, slice_index_or}
use Rattle.prl_plan.specs.Runs.{RunConstants}
use Rattle.prl_edf.specs.TimedRuns.{AreUnits}

-- the units of job n of task i
abbrev pub units_of : List (List ℕ) → ℕ → ℕ → ℕ
units_of lists i n = slice_index (slice_index_or lists i []) n

-- one list for each task, with one number for each horizon job, from 1 to what it costs
pub record AreUnitLists (c : RunConstants) (cost : ℕ → ℕ → ℕ) (lists : List (List ℕ)) : Type 0 where
  pub tasks : length lists ≡ c.tasks
  pub jobs : (i : ℕ) → i < c.tasks → length (slice_index_or lists i []) ≡ c.jobs i
  pub units : AreUnits c cost (units_of lists)
