use Rattle.prl_base.proofs.Standard.{◌≢◌, ◌<◌, ℕ}
use Rattle.prl_plan.specs.Vocabulary.{task_at}
use Rattle.prl_times.proofs.names.task_named.Given as goal

-- the tasks that were passed have other names
abbrev pub invariant-loop-i : goal.invariant-loop-i
invariant-loop-i l = (j : ℕ) → j < l.i → (task_at l.plan.graph j).name ≢ l.name
