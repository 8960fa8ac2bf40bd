use Rattle.prl_causal.proofs.Shapes.{one_behaviour}
use Rattle.prl_causal.proofs.behaviours.texts_have_one_shape.Goals as goal

pub returns : goal.returns
returns c = λ p k b d text_b text_d flows imports. one_behaviour p k b d text_b text_d flows imports
