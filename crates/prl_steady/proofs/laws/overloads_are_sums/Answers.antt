use Rattle.prl_steady.proofs.Starts.{shares_sum}
use Rattle.prl_steady.proofs.laws.overloads_are_sums.Goals as goal

pub returns : goal.returns
returns c = λ plan from to demand answer. shares_sum plan from to demand answer
