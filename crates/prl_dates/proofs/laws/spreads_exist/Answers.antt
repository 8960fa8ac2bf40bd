use Rattle.prl_dates.proofs.SomeSpread.{some_spread}
use Rattle.prl_dates.proofs.laws.spreads_exist.Goals as goal

pub returns : goal.returns
returns c = some_spread
