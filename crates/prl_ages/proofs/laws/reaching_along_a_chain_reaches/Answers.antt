use Rattle.prl_ages.proofs.Reaching.{without_chain}
use Rattle.prl_ages.proofs.laws.reaching_along_a_chain_reaches.Goals as goal

pub returns : goal.returns
returns c = without_chain
