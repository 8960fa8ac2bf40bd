use Rattle.prl_rule.specs.PlanLaws.{PlanLaws}
use Rattle.prl_rule.proofs.Caught.{over_law, store_half_law, replaces_law}
use Rattle.prl_rule.proofs.steps.store_of_half_is_a_write.Goals as goal

pub returns : goal.returns
returns c =
    let laws : PlanLaws = c.plan_laws.ensures in record {
      keeps = λ k run v w es words views id i count e m h view p a has read at fits. store_half_law k run v laws w es words views id i count view p a has read e m h at fits;
      replaces = λ k run v w es words views id i count e m h view p a has read at. replaces_law k run v laws w es words views id i count view p a has read e m h at;
      over = λ k v w es words views id i count e m h view p whole horizon a has read at. over_law k v laws whole horizon w es words views id i count view p a has read e m h at;
    }
