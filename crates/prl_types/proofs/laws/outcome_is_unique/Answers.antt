use Rattle.prl_types.proofs.Outcomes.{one_outcome}
use Rattle.prl_types.proofs.laws.outcome_is_unique.Goals as goal

pub returns : goal.returns
returns c = one_outcome
