use Rattle.prl_rule.specs.PlanLaws.{PlanLaws}
use Rattle.prl_rule.proofs.Caught.{load_stop_law}
use Rattle.prl_rule.proofs.StopSteps.{clock_stop_keeps, stop_not_none, stop_gated, stop_names}
use Rattle.prl_rule.proofs.steps.load_of_stop_is_kept.Goals as goal

pub returns : goal.returns
returns c =
    let laws : PlanLaws = c.plan_laws.ensures in record {
      keeps = λ k run v w es words views id i count view p a has read. load_stop_law k run v laws w es words views id i count view p a has read;
      clock = λ k run v w es words views id view r a has. clock_stop_keeps k run v w es words views id view r a has.seat has.part;
      own = λ k run v w es words views id i view p a has raised. stop_not_none k run v w es words views id i view p a has.seat has.part raised;
      gated = stop_gated;
      named = stop_names;
    }
