use Rattle.prl_graph.specs.code.Marks.{AreMarked}
use Rattle.prl_graph.proofs.dues.output_marks.Given as goal

abbrev pub invariant-loop-flow : goal.invariant-loop-flow
invariant-loop-flow l = AreMarked l.flat l.flow-index l.marks
