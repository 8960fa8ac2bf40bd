use Rattle.prl_dates.proofs.Rises.{all_settled}
use Rattle.prl_dates.proofs.spreads.raise_within.Goals as goal

pub raise_to_end-requires-clause-settled : goal.raise_to_end-requires-clause-settled
raise_to_end-requires-clause-settled c =
    all_settled c.args.graph.now c.args.lanes.now c.requires.well c.requires.lanes c.args.ends.now c.in_ok-rises.rises.last.items c.requires.long c.in_ok-rises.ensures.below c.in_ok-rises.ensures.all
