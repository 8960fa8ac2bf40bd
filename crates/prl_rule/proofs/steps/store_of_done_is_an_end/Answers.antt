use Rattle.prl_rule.specs.PlanLaws.{PlanLaws}
use Rattle.prl_rule.proofs.Caught.{store_done_law}
use Rattle.prl_rule.proofs.steps.store_of_done_is_an_end.Goals as goal

pub returns : goal.returns
returns c = λ k run v w es words views id i count view p a has read at.
    let laws : PlanLaws = c.plan_laws.ensures in store_done_law k run v laws w es words views id i count view p a has read at
