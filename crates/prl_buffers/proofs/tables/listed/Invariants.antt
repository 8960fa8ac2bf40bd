use Rattle.std.proofs.Common.{◌≡◌, ◌*◌, ◌≤◌, ◌^◌, sum}
use Rattle.prl_buffers.specs.code.Tables.{AreListed}
use Rattle.prl_buffers.proofs.tables.listed.Given as goal

abbrev pub invariant-loop-e : goal.invariant-loop-e
invariant-loop-e l = record {
  are : AreListed l.graph l.fn.dates l.e l.list.counts.items l.list.used.items l.list.sums.items;
  total_is : l.list.total ≡ sum l.list.counts.items;
  small : l.list.total ≤ l.e * 2 ^ 51;
}
