use Rattle.prl_influence.proofs.Feeding.{none_fresher}
use Rattle.prl_influence.proofs.laws.nothing_fresher_feeds.Goals as goal

pub returns : goal.returns
returns c = none_fresher
