use Rattle.prl_rule.specs.PlanLaws.{PlanLaws}
use Rattle.prl_rule.proofs.Caught.{gated_law}
use Rattle.prl_rule.proofs.steps.gated_read_is_never_overrun.Goals as goal

pub returns : goal.returns
returns c = λ k run v w es words views id i count port e m h view p a gate has read at.
    let laws : PlanLaws = c.plan_laws.ensures in gated_law k run v laws w es words views id i count view p a has read port e m h gate at
