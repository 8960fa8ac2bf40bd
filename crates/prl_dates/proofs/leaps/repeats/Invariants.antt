use Rattle.std.proofs.Common.{◌≤◌}
use Rattle.prl_dates.specs.code.Leaps.{MayRepeat}
use Rattle.prl_dates.proofs.leaps.repeats.Given as goal

abbrev pub invariant-loop-l : goal.invariant-loop-l
invariant-loop-l l = record {
  most : l.times ≤ l.most;
  along : 1 ≤ l.times → MayRepeat l.graph l.lanes l.l l.past l.now l.times;
}
