use Rattle.std.proofs.Common.{◌<◌, ◌^◌}
use Rattle.prl_numbers.specs.Counts.{IsLeastTurn}
use Rattle.prl_numbers.proofs.counts.least_count.Given as goal

abbrev pub invariant-loop-k : goal.invariant-loop-k
invariant-loop-k l = record {
  least : IsLeastTurn l.releases l.hyper l.ends l.k l.count;
  small : l.count < 2 ^ 51;
}
