use Rattle.prl_plan.proofs.PlanNumbers.{window_within}
use Rattle.prl_words.proofs.ranges.windows_are_within_dues.Goals as goal

pub returns : goal.returns
returns c = window_within
