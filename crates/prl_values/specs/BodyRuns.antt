-- When the body of a task runs: once its job has read all operands, or at once where it has none.
use Rattle.std.specs.Prelude.{◌+◌, ◌==◌, if◌then◌else◌, ℕ, length, max, nat_le, slice_index}
use Rattle.prl_plan.specs.Plans.{PlanView, reads_of}
use Rattle.prl_plan.specs.Runs.{ExecState}

-- the place after the action with which job n of task i runs its body
abbrev pub place_of_run : PlanView → ℕ → ℕ → ℕ
place_of_run plan i n = max (length (reads_of plan i n 0 plan.graph.edges)) 1

-- how many steps task i has made: one for each ended job, and one where the open job's body has run
abbrev pub steps_made : PlanView → ExecState → ℕ → ℕ
steps_made plan s i =
    slice_index s.ended i + (if nat_le (place_of_run plan i (slice_index s.ended i)) (slice_index s.places i) then 1 else 0)

-- 1 where the next action of task i runs its body, and 0 where it does not
abbrev pub runs_next : PlanView → ExecState → ℕ → ℕ
runs_next plan s i = if slice_index s.places i + 1 == place_of_run plan i (slice_index s.ended i) then 1 else 0
