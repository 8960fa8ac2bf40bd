use Rattle.std.proofs.Common.{◌≡◌, ◌++◌, drop}
use Rattle.prl_plantext.specs.PlanTexts.{numbered, cells_line_words}
use Rattle.prl_plantext.proofs.printing.push_all_cells.Given as goal

abbrev pub invariant-loop-e : goal.invariant-loop-e
invariant-loop-e l =
    l.text.items ++ numbered (cells_line_words l.plan) l.e (drop l.e l.plan.graph.edges)
    ≡ l.initial.text.items ++ numbered (cells_line_words l.plan) 0 l.plan.graph.edges
