use Rattle.prl_causal.proofs.States.{made}
use Rattle.prl_causal.proofs.behaviours.states_make_behaviours.Goals as goal

pub returns : goal.returns
returns c = λ p k e s text flows imports. made p k e s text flows imports
