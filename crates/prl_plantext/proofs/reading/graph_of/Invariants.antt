use Rattle.std.proofs.Common.{◌≡◌, length}
use Rattle.prl_plantext.specs.code.Graphs.{graph_of, lines_in, with_lines}
use Rattle.prl_plantext.proofs.reading.graph_of.Given as goal

-- the graph so far with the lines that are left is that of the text
abbrev pub invariant-loop-rest : goal.invariant-loop-rest
invariant-loop-rest l = with_lines l.found (lines_in l.rest) ≡ graph_of l.text

abbrev pub decreases-loop-rest : goal.decreases-loop-rest
decreases-loop-rest l = length l.rest
