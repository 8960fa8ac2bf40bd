use Rattle.prl_dates.proofs.Lowering.{LoweredSoFar}
use Rattle.prl_dates.proofs.latest.lower_before.Given as goal

abbrev pub invariant-loop-l : goal.invariant-loop-l
invariant-loop-l l = LoweredSoFar l.graph l.lanes l.floor l.l l.job l.fn.dates l.fn.fell.items l.dates l.fell.items
