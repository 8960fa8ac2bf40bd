-- Chains of tasks, from the one that gives first to the one that uses last.
use Rattle.std.specs.Prelude.{◌==◌, ◌&&◌, ◌||◌, ℕ, Bool, true, false, List, [], ◌∷◌}
use Rattle.prl_base.specs.declared.numbers.TaskNo.{TaskNo}

-- the tasks begin with task t
abbrev pub begins_with : List TaskNo → ℕ → Bool
begins_with [] t = false
begins_with (task ∷ tasks) t = task.0 == t

-- somewhere in the chain task t stands right after task i
abbrev pub leads : List TaskNo → ℕ → ℕ → Bool
leads [] i t = false
leads (task ∷ tasks) i t = ((task.0 == i) && begins_with tasks t) || leads tasks i t

-- a step from task i to task t counts: it is one of the chain; where no chain is named, each counts
abbrev pub is_along : List TaskNo → ℕ → ℕ → Bool
is_along [] i t = true
is_along (task ∷ tasks) i t = leads (task ∷ tasks) i t
