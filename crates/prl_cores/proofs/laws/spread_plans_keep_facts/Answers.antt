use Rattle.prl_cores.proofs.SpreadFacts.{spread_has_facts}
use Rattle.prl_cores.proofs.laws.spread_plans_keep_facts.Goals as goal

pub returns : goal.returns
returns c = λ plan horizon placement is of spread. spread_has_facts plan is horizon of (c.plans_keep_facts.ensures plan horizon is of) placement spread
