use Rattle.prl_plan.proofs.WalkLaws.{walk_preceding}
use Rattle.prl_plan.proofs.facts.operands_precede.Goals as goal

pub returns : goal.returns
returns c = walk_preceding
