use Rattle.prl_ages.proofs.Reaching.{rises}
use Rattle.prl_ages.proofs.laws.reaching_rises.Goals as goal

pub returns : goal.returns
returns c = rises
