use Rattle.prl_base.proofs.Standard.{◌≡◌, drop, list_all}
use Rattle.prl_plantext.specs.code.Checks.{is_edge}
use Rattle.prl_plantext.proofs.checking.are_edges.Given as goal

abbrev pub invariant-loop-edge : goal.invariant-loop-edge
invariant-loop-edge l = list_all (is_edge l.hyper l.tasks) (drop l.edge-index l.edges) ≡ list_all (is_edge l.hyper l.tasks) l.edges
