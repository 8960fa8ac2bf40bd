use Rattle.prl_ages.proofs.Falling.{falls}
use Rattle.prl_ages.proofs.laws.ages_fall.Goals as goal

pub returns : goal.returns
returns c = λ graph chain good s a m k later until in_s in_a. falls graph chain good s a until in_s in_a m k later
