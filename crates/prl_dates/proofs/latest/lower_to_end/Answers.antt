use Rattle.prl_base.proofs.Standard.{arith}
use Rattle.prl_dates.proofs.Lowering.{hold_all}
use Rattle.prl_dates.proofs.latest.lower_to_end.Goals as goal

pub lower_over-requires-clause-hold : goal.lower_over-requires-clause-hold
lower_over-requires-clause-hold c =
    hold_all c.args.graph.now c.args.lanes.now c.requires.well c.requires.lanes.each c.args.dates.now c.in_ok-changed.changed.last.items
    (λ q below. c.in_ok-changed.ensures.all q (omega (arith, below, c.requires.dates.long)))
