use Rattle.prl_stages.proofs.Decided.{some_end}
use Rattle.prl_stages.proofs.laws.stages_come_to_an_end.Goals as goal

pub returns : goal.returns
returns c = some_end
