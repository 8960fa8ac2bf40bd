use Rattle.prl_cores.proofs.OneSpread.{one_run}
use Rattle.prl_cores.proofs.laws.spreads_are_one.Goals as goal

pub returns : goal.returns
returns c = one_run
