use Rattle.prl_arguments.proofs.Taken.{in_range}
use Rattle.prl_arguments.proofs.laws.commands_are_in_range.Goals as goal

pub returns : goal.returns
returns c = in_range
