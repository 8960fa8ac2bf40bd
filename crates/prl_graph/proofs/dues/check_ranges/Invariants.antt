use Rattle.std.proofs.Common.{◌<◌, ℕ}
use Rattle.prl_graph.specs.code.Marks.{IsRanged}
use Rattle.prl_graph.proofs.dues.check_ranges.Given as goal

abbrev pub invariant-loop-i : goal.invariant-loop-i
invariant-loop-i l = (j : ℕ) → j < l.i → IsRanged l.flat l.clocks.of j
