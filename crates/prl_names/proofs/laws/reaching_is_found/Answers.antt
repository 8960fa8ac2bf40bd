use Rattle.prl_names.proofs.Reaching.{reached, reaching}
use Rattle.prl_names.proofs.laws.reaching_is_found.Goals as goal

pub returns : goal.returns
returns c = λ p by node. (reaching p by node, λ way. (reached p by node way).1)
