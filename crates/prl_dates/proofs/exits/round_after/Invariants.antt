use Rattle.prl_dates.specs.code.Tables.{AreUnderWay}
use Rattle.prl_dates.proofs.Rises.{HaveAsked}
use Rattle.prl_dates.proofs.exits.round_after.Given as goal

abbrev pub invariant-loop-job : goal.invariant-loop-job
invariant-loop-job l = record {
  way : AreUnderWay l.graph l.lanes l.now l.next l.rises.items;
  asked : HaveAsked l.graph l.lanes l.risen l.job-index l.now l.next;
}
