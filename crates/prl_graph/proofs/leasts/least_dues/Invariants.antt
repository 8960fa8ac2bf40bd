use Rattle.prl_graph.specs.code.Marks.{AreLeastDues}
use Rattle.prl_graph.proofs.leasts.least_dues.Given as goal

abbrev pub invariant-loop-i : goal.invariant-loop-i
invariant-loop-i l = AreLeastDues l.flat l.clocks.of l.i l.dues.items
