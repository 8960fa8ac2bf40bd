use Rattle.std.proofs.Common.{◌≡◌, ◌+◌, ◌-◌, ◌*◌, ◌≤◌, ◌^◌, length}
use Rattle.prl_dates.specs.Vocabulary.{AreBests, dates_of, AreRounds, AreSettled, AreWithin}
use Rattle.prl_dates.proofs.leaps.rounds_over.Given as goal

abbrev pub invariant-loop-count : goal.invariant-loop-count
invariant-loop-count l = record {
  within : l.count ≤ l.most;
  long : length l.now ≡ length l.fn.now;
  bests : AreBests l.graph l.count (dates_of l.graph l.now);
  small : AreWithin l.now ((l.count + 1) * 2 ^ 31);
  settled : AreSettled l.graph l.lanes l.rises.last.items l.now;
  copy : l.next ≡ l.now;
  before : l.past.rounds ≤ l.count;
  rounds : AreRounds l.graph l.lanes (l.count - l.past.rounds) l.past.table.items l.now;
}

abbrev pub decreases-loop-count : goal.decreases-loop-count
decreases-loop-count l = l.most - l.count
