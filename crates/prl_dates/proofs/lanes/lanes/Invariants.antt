use Rattle.prl_dates.specs.code.Lanes.{AreLanesOf}
use Rattle.prl_dates.proofs.lanes.lanes.Given as goal

abbrev pub invariant-loop-e : goal.invariant-loop-e
invariant-loop-e l = AreLanesOf l.graph l.e l.lanes.items
