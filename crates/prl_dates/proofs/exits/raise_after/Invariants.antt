use Rattle.std.proofs.Common.{◌≤◌, ℕ, slice_index}
use Rattle.prl_dates.specs.code.Tables.{AreUnderWay}
use Rattle.prl_dates.proofs.Rises.{ExitsAsked}
use Rattle.prl_dates.proofs.exits.raise_after.Given as goal

abbrev pub invariant-loop-count : goal.invariant-loop-count
invariant-loop-count l = record {
  way : AreUnderWay l.graph l.lanes l.now l.next l.rises.items;
  up : (q : ℕ) → slice_index l.fn.next q ≤ slice_index l.next q;
  asked : ExitsAsked l.graph l.lanes l.list l.job l.count l.now l.next;
}

abbrev pub decreases-loop-count : goal.decreases-loop-count
decreases-loop-count l = l.count
