use Rattle.prl_plan.proofs.PlanNumbers.{walked_within}
use Rattle.prl_words.proofs.PrecedingNumbers.{preceding_small}
use Rattle.prl_words.proofs.ranges.walk_numbers_fit.Goals as goal

pub returns : goal.returns
returns c = record { read = walked_within; precedence = preceding_small }
