use Rattle.prl_expand.proofs.Unique.{one_expansion}
use Rattle.prl_expand.proofs.laws.expansions_are_unique.Goals as goal

pub returns : goal.returns
returns c = λ p main one other x y. one_expansion p main one other x y
