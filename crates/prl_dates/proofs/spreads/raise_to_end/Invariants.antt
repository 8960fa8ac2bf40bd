use Rattle.prl_base.proofs.Standard.{◌≡◌, ◌-◌, ◌*◌, ◌^◌, length, sum}
use Rattle.prl_plan.specs.Graphs.{jobs_in_hyperperiod}
use Rattle.prl_dates.specs.Vocabulary.{IsRising, AreSettled}
use Rattle.prl_dates.proofs.spreads.raise_to_end.Given as goal

abbrev pub invariant-loop : goal.invariant-loop
invariant-loop l = record {
  long : length l.now ≡ jobs_in_hyperperiod l.graph;
  rising : IsRising l.graph l.lanes l.fn.now l.now;
  settled : AreSettled l.graph l.lanes l.rises.last.items l.now;
  copy : l.next ≡ l.now;
}

abbrev pub decreases-loop : goal.decreases-loop
decreases-loop l = length l.now * 2 ^ 31 - sum l.now
