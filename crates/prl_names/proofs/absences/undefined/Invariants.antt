use Rattle.std.proofs.Common.{◌≡◌, drop, map}
use Rattle.prl_ast.specs.Trees.{node_tree}
use Rattle.prl_names.specs.Unknowns.{undefined_among}
use Rattle.prl_names.proofs.absences.undefined.Given as goal

abbrev pub invariant-loop-node : goal.invariant-loop-node
invariant-loop-node l = undefined_among (map node_tree (drop l.node-index l.node-items)) ≡ undefined_among (map node_tree l.node-items)
