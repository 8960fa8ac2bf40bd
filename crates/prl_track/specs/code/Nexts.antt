-- Which task goes on next, among the tasks below a number.
use Rattle.std.specs.Prelude.{◌≡◌, ◌<◌, ◌≤◌, ℕ, Option, Some, None}
use Rattle.prl_plan.specs.Runs.{RunConstants, ExecState}
use Rattle.prl_plan.specs.Rules.{first_unfinished, IsUnfinished, HasJob, ActsReleased}
use Rattle.prl_track.specs.declared.firsts.Chosen.{Chosen}

-- of the tasks below a number, this is the lowest one that has a released unfinished job which is due earliest
pub record IsChosen (c : RunConstants) (s : ExecState) (bound : ℕ) (chosen : Chosen) : Type 0 where
  pub below : chosen.task.0 < bound
  pub job : HasJob c s chosen.task.0
  pub released : ActsReleased c s chosen.task.0
  pub deadline : chosen.deadline ≡ c.deadline chosen.task.0 (first_unfinished s chosen.task.0)
  pub first : (j n : ℕ) → j < bound → IsUnfinished c s j n → c.release j n ≤ s.now → chosen.deadline ≤ c.deadline j n
  pub lowest : (j : ℕ) → j < chosen.task.0 → HasJob c s j → ActsReleased c s j → chosen.deadline < c.deadline j (first_unfinished s j)

-- no task below a number has a released unfinished job
abbrev pub NoneReleased : RunConstants → ExecState → ℕ → Type 0
NoneReleased c s bound = (j n : ℕ) → j < bound → IsUnfinished c s j n → s.now < c.release j n

abbrev pub IsChoice : RunConstants → ExecState → ℕ → Option Chosen → Type 0
IsChoice c s bound None = NoneReleased c s bound
IsChoice c s bound (Some chosen) = IsChosen c s bound chosen
