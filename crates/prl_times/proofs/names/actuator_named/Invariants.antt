use Rattle.prl_base.proofs.Standard.{◌≡◌, ◌≢◌, ◌<◌, ℕ, true}
use Rattle.prl_plan.specs.Vocabulary.{is_actuator, task_at}
use Rattle.prl_times.proofs.names.actuator_named.Given as goal

-- the actuators that were passed have other names
abbrev pub invariant-loop-i : goal.invariant-loop-i
invariant-loop-i l = (j : ℕ) → j < l.i → is_actuator (task_at l.plan.graph j).kind ≡ true → (task_at l.plan.graph j).name ≢ l.name
