use Rattle.prl_stages.proofs.SmallClocks.{small_clocks}
use Rattle.prl_calls.proofs.fronts.make_graphed.Goals as goal

pub graph-requires-clause-small : goal.graph-requires-clause-small
graph-requires-clause-small c = small_clocks c.args.flat.now c.args.clocks.now.of c.requires.only
