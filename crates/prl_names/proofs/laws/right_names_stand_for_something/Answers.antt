use Rattle.prl_names.proofs.Right.{named}
use Rattle.prl_names.proofs.laws.right_names_stand_for_something.Goals as goal

pub returns : goal.returns
returns c = λ p main node right. named p main node right
