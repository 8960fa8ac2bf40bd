use Rattle.prl_values.proofs.Steps.{step_counted, idle_steps}
use Rattle.prl_values.proofs.laws.act_runs_body_once.Goals as goal

pub returns : goal.returns
returns c = record { steps = step_counted c.actions_are_as_defined.ensures.end; idle = idle_steps }
