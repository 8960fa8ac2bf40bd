use Rattle.prl_rule.specs.PlanLaws.{PlanLaws}
use Rattle.prl_rule.proofs.ClockSteps.{tick_keeps}
use Rattle.prl_rule.proofs.steps.store_of_now_is_a_tick.Goals as goal

pub returns : goal.returns
returns c = λ k run v w es words views id view r a has before ended.
    let laws : PlanLaws = c.plan_laws.ensures in tick_keeps k run v laws w es words views id view r a has.seat has.part before ended
