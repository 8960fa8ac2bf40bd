use Rattle.prl_ages.proofs.Reaching.{not_later}
use Rattle.prl_ages.proofs.laws.reaching_is_not_later.Goals as goal

pub returns : goal.returns
returns c = not_later
