use Rattle.prl_dates.specs.code.Exits.{AreExitsPart}
use Rattle.prl_dates.proofs.exits.add_exits.Given as goal

abbrev pub invariant-loop-place : goal.invariant-loop-place
invariant-loop-place l = AreExitsPart l.graph l.lanes l.l l.place l.list.items l.last
