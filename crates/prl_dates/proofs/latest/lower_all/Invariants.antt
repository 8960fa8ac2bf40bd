use Rattle.std.proofs.Common.{[]}
use Rattle.prl_dates.specs.code.Tables.{AreUpperDates, AreLowered}
use Rattle.prl_dates.proofs.Lowering.{HoldFrom}
use Rattle.prl_dates.proofs.latest.lower_all.Given as goal

abbrev pub invariant-loop-job : goal.invariant-loop-job
invariant-loop-job l = record {
  dates : AreUpperDates l.graph l.floor l.dates;
  lowered : AreLowered l.graph l.fn.dates l.dates [] l.fell.items;
  hold : HoldFrom l.graph l.lanes l.fallen l.job-index l.dates l.fell.items;
}
