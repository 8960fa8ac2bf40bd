use Rattle.prl_ages.proofs.Reaching.{repeats}
use Rattle.prl_ages.proofs.laws.reaching_repeats.Goals as goal

pub returns : goal.returns
returns c = λ graph chain good s m t n inside. repeats graph chain good s m t n
