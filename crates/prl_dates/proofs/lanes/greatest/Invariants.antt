use Rattle.prl_dates.specs.code.Lanes.{AreGreatest}
use Rattle.prl_dates.proofs.lanes.greatest.Given as goal

abbrev pub invariant-loop-edge : goal.invariant-loop-edge
invariant-loop-edge l = AreGreatest l.graph l.from.0 l.to.0 l.edge-index l.numbers.items
