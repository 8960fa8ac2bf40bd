use Rattle.std.proofs.Common.{◌<◌, ◌≤◌, ℕ, length}
use Rattle.prl_plan.specs.Jobs.{task_at}
use Rattle.example_loop.proofs.longest.longest.Given as goal

-- the one that was found is among those that were looked at, and none of these has a higher WCET
abbrev pub invariant-loop-i : goal.invariant-loop-i
invariant-loop-i l = (l.found < l.i) × (l.i ≤ length l.graph.tasks) × ((k : ℕ) → k < l.i → (task_at l.graph k).wcet ≤ (task_at l.graph l.found).wcet)
