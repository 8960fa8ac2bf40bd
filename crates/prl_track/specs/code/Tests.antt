-- What a track tests before an event, task by task.
use Rattle.std.specs.Prelude.{◌≡◌, ◌+◌, ◌<◌, ◌≤◌, ℕ}
use Rattle.prl_plan.specs.Runs.{RunConstants, ExecState}
use Rattle.prl_plan.specs.Rules.{IsUnfinished, first_unfinished}

-- task j is on this processor, and a released unfinished job of it is due before this deadline, and it is the first
abbrev pub Overtakes : RunConstants → ExecState → ℕ → ℕ → ℕ → Type 0
Overtakes c s j processor deadline =
    (c.processor j ≡ processor) × IsUnfinished c s j (first_unfinished s j) × (c.release j (first_unfinished s j) ≤ s.now) × (c.deadline j (first_unfinished s j) < deadline)

-- none of them is
abbrev pub IsNotEarlier : RunConstants → ExecState → ℕ → ℕ → ℕ → Type 0
IsNotEarlier c s j processor deadline = (n : ℕ) → c.processor j ≡ processor → IsUnfinished c s j n → c.release j n ≤ s.now → deadline ≤ c.deadline j n

-- the first unfinished job of task j is due at the next tick
abbrev pub IsDueFirst : RunConstants → ExecState → ℕ → Type 0
IsDueFirst c s j = IsUnfinished c s j (first_unfinished s j) × (c.deadline j (first_unfinished s j) ≤ s.now + 1)

-- no unfinished job of task j is
abbrev pub IsInTime : RunConstants → ExecState → ℕ → Type 0
IsInTime c s j = (n : ℕ) → IsUnfinished c s j n → s.now + 1 < c.deadline j n
