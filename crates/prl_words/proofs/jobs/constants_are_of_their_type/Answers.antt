use Rattle.prl_plan.proofs.ReadOrder.{constant_typed}
use Rattle.prl_words.proofs.jobs.constants_are_of_their_type.Goals as goal

pub returns : goal.returns
returns c = constant_typed
