use Rattle.prl_dates.proofs.Rises.{all_settled}
use Rattle.prl_dates.proofs.leaps.rounds.Goals as goal

pub rounds_over-requires-clause-settled : goal.rounds_over-requires-clause-settled
rounds_over-requires-clause-settled c =
    all_settled c.args.graph.now c.args.lanes.now c.requires.well c.requires.lanes.each c.args.now.now c.in_ok-rises.rises.last.items c.requires.long c.in_ok-rises.ensures.below c.in_ok-rises.ensures.all
