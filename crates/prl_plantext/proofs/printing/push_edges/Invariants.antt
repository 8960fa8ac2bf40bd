use Rattle.std.proofs.Common.{◌≡◌, ◌++◌, drop}
use Rattle.prl_plantext.specs.PlanTexts.{numbered, edge_words}
use Rattle.prl_plantext.proofs.printing.push_edges.Given as goal

abbrev pub invariant-loop-e : goal.invariant-loop-e
invariant-loop-e l = l.text.items ++ numbered edge_words l.e (drop l.e l.edges) ≡ l.initial.text.items ++ numbered edge_words 0 l.edges
