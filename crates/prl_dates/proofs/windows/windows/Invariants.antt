use Rattle.prl_dates.specs.code.Windows.{AreWindows}
use Rattle.prl_dates.proofs.windows.windows.Given as goal

abbrev pub invariant-loop-i : goal.invariant-loop-i
invariant-loop-i l = AreWindows l.graph l.bests l.tails l.i l.windows.items
