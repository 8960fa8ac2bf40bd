use Rattle.std.proofs.Common.{sum}
use Rattle.prl_dates.specs.code.Tables.{AreUpperDates, HoldAll}
use Rattle.prl_dates.proofs.latest.lower_over.Given as goal

abbrev pub invariant-loop-changed : goal.invariant-loop-changed
invariant-loop-changed l = record {
  dates : AreUpperDates l.graph l.floor l.dates;
  hold : HoldAll l.graph l.lanes l.dates l.changed.last.items;
}

abbrev pub decreases-loop-changed : goal.decreases-loop-changed
decreases-loop-changed l = sum l.dates
