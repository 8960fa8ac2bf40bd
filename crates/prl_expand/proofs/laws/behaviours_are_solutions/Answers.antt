use Rattle.prl_expand.proofs.Corresponds.{one_to_one}
use Rattle.prl_expand.proofs.laws.behaviours_are_solutions.Goals as goal

pub returns : goal.returns
returns c = λ p asked main types e typed expansion bodies rows until. one_to_one p asked main types e typed expansion bodies rows until
