use Rattle.std.proofs.Common.{◌≡◌, ◌++◌, drop, sum, take}
use Rattle.prl_buffers.specs.code.Tables.{bases_from}
use Rattle.prl_buffers.proofs.tables.bases_of.Given as goal

abbrev pub invariant-loop-count : goal.invariant-loop-count
invariant-loop-count l = record {
  before_is : l.before ≡ sum (take l.count-index l.counts);
  bases_are : l.bases.items ++ bases_from l.before (drop l.count-index l.counts) ≡ bases_from 0 l.counts;
}
