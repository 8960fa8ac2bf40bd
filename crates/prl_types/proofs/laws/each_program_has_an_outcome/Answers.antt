use Rattle.prl_types.proofs.Existence.{some_outcome}
use Rattle.prl_types.proofs.laws.each_program_has_an_outcome.Goals as goal

pub returns : goal.returns
returns c = some_outcome
