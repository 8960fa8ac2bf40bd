use Rattle.prl_plan.proofs.NotLater.{released_first}
use Rattle.prl_words.proofs.jobs.precedence_is_not_later.Goals as goal

pub returns : goal.returns
returns c = released_first
