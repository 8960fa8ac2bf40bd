use Rattle.prl_causal.proofs.Wholes.{clocks_agree, values_solve}
use Rattle.prl_causal.proofs.behaviours.solutions_are_of_their_clocks.Goals as goal

pub returns : goal.returns
returns c = λ p bodies rows until s flat h. (clocks_agree p flat bodies rows until s h, values_solve p flat bodies rows until s h)
