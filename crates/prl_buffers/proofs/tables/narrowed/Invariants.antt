use Rattle.std.proofs.Common.{◌≡◌, take}
use Rattle.prl_buffers.proofs.tables.narrowed.Given as goal

abbrev pub invariant-loop-count : goal.invariant-loop-count
invariant-loop-count l = l.narrow.items ≡ take l.count-index l.counts
