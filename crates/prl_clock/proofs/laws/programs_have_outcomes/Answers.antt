use Rattle.prl_clock.proofs.Existing.{has_outcome}
use Rattle.prl_clock.proofs.laws.programs_have_outcomes.Goals as goal

pub returns : goal.returns
returns c = has_outcome
