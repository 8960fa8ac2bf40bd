use Rattle.prl_plan.proofs.Progress.{sound_state_goes_on}
use Rattle.prl_plan.proofs.laws.sound_state_goes_on.Goals as goal

pub returns : goal.returns
returns c = sound_state_goes_on
