use Rattle.prl_base.proofs.Standard.{◌-◌, ◌<◌, ◌≤◌, length, sum, take, slice_index_or}
use Rattle.prl_plan.specs.Cells.{no_used}
use Rattle.prl_plan.proofs.cell_lists.Cells.gaps_to.Given as goal

abbrev pub invariant-loop-low : goal.invariant-loop-low
invariant-loop-low l = record {
  order : l.low < l.high;
  within : l.high ≤ length (slice_index_or l.self.used l.fn.e.0 no_used).gaps;
  reached : sum (take l.low (slice_index_or l.self.used l.fn.e.0 no_used).gaps) ≤ l.rest;
  not_passed : l.rest < sum (take l.high (slice_index_or l.self.used l.fn.e.0 no_used).gaps);
}

abbrev pub decreases-loop-low : goal.decreases-loop-low
decreases-loop-low l = l.high - l.low
