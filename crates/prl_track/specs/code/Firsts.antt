-- The first unfinished job of each task with its dates, as a track keeps it.
use Rattle.std.specs.Prelude.{◌≡◌, ◌<◌, ◌≤◌, ℕ, List, length, Option, Some, slice_get, slice_index, MatchOption}
use Rattle.prl_plan.specs.Runs.{RunConstants, ExecState}
use Rattle.prl_plan.specs.Rules.{first_unfinished, HasJob}
use Rattle.prl_track.specs.declared.firsts.First.{First}

-- job n of task j is a horizon job, with these encoded dates
pub record IsFirstAt (c : RunConstants) (j n : ℕ) (first : First) : Type 0 where
  pub job : first.job ≡ n
  pub inside : n < c.jobs j
  pub release : first.release ≡ c.release j n
  pub deadline : first.deadline ≡ c.deadline j n

-- of each task, by how many of its jobs have ended: its first unfinished job, if it has one
pub record AreFirsts (c : RunConstants) (ended : List ℕ) (firsts : List (Option First)) : Type 0 where
  pub tasks : length firsts ≡ c.tasks
  pub each : (j : ℕ) (kept : Option First) → slice_get firsts j ≡ Some kept →
      MatchOption kept (c.jobs j ≤ slice_index ended j) (IsFirstAt c j (slice_index ended j))

-- the first unfinished job of task j in a state, and its encoded dates
pub record IsFirst (c : RunConstants) (s : ExecState) (j : ℕ) (first : First) : Type 0 where
  pub job : first.job ≡ first_unfinished s j
  pub left : HasJob c s j
  pub release : first.release ≡ c.release j (first_unfinished s j)
  pub deadline : first.deadline ≡ c.deadline j (first_unfinished s j)

-- it is that of task j, if it has one
abbrev pub IsFirstOf : RunConstants → ExecState → ℕ → Option First → Type 0
IsFirstOf c s j = λ first. MatchOption first (c.jobs j ≤ first_unfinished s j) (IsFirst c s j)
