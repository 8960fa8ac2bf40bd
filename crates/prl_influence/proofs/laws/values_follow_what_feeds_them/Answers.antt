use Rattle.prl_base.proofs.Standard.{◌+◌}
use Rattle.prl_influence.proofs.Shown.{values_same}
use Rattle.prl_influence.proofs.laws.values_follow_what_feeds_them.Goals as goal

pub returns : goal.returns
returns c = λ graph bodies rows other until i n agree. values_same graph bodies rows other (until + graph.hyper) i n agree
