use Rattle.prl_plan.proofs.ChainLaws.{none_narrow, one_best}
use Rattle.prl_plan.proofs.facts.room_leaves_no_narrow_chain.Goals as goal

pub returns : goal.returns
returns c = record { narrow = none_narrow; best = one_best }
