use Rattle.prl_causal.proofs.Made.{made_whole}
use Rattle.prl_causal.proofs.behaviours.solutions_over_clocks_are_whole.Goals as goal

pub returns : goal.returns
returns c = λ p clocks bodies rows until flows flat agree have typed h. made_whole p flat clocks agree bodies have typed rows until flows h
