use Rattle.prl_expand.proofs.Served.{have_bodies}
use Rattle.prl_expand.proofs.laws.expansions_have_bodies.Goals as goal

pub returns : goal.returns
returns c = λ p asked main types e range typed expansion bodies have. have_bodies p asked main types e range typed expansion bodies have
