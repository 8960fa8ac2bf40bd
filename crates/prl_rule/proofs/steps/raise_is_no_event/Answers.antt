use Rattle.prl_rule.specs.PlanLaws.{PlanLaws}
use Rattle.prl_rule.proofs.Caught.{raise_law, calm_law}
use Rattle.prl_rule.proofs.steps.raise_is_no_event.Goals as goal

pub returns : goal.returns
returns c =
    let laws : PlanLaws = c.plan_laws.ensures in record {
      keeps = λ k run v w es words views id i count view p a has read over. raise_law k run v laws w es words views id i count view p a has read over;
      gated = λ k run v w es words views id i count view p a gate has read over. calm_law k run v laws w es words views id i count view p a has read gate over;
    }
