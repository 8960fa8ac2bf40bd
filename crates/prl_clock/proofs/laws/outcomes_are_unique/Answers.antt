use Rattle.prl_clock.proofs.Single.{one_outcome}
use Rattle.prl_clock.proofs.laws.outcomes_are_unique.Goals as goal

pub returns : goal.returns
returns c = one_outcome
