use Rattle.prl_dates.specs.code.Exits.{AreExitsPart}
use Rattle.prl_dates.proofs.exits.exits_of.Given as goal

abbrev pub invariant-loop-l : goal.invariant-loop-l
invariant-loop-l l = AreExitsPart l.graph l.lanes l.l 0 l.list.items l.last.items
