use Rattle.prl_causal.proofs.States.{own}
use Rattle.prl_causal.proofs.behaviours.behaviours_are_of_their_states.Goals as goal

pub returns : goal.returns
returns c = λ p k e b text_e text_b flows imports. own p k e b text_e text_b flows imports
