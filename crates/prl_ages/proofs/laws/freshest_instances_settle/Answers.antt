use Rattle.prl_ages.proofs.CutWays.{settles_later, settles_earlier}
use Rattle.prl_ages.proofs.laws.freshest_instances_settle.Goals as goal

pub returns : goal.returns
returns c = record { later = settles_later; earlier = settles_earlier }
