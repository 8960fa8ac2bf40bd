use Rattle.std.proofs.Common.{◌≡◌, drop, map}
use Rattle.prl_ast.specs.Trees.{node_tree, NodeTree}
use Rattle.prl_names.specs.Lookups.{index_from}
use Rattle.prl_names.proofs.checks.main_of.Given as goal

abbrev pub invariant-loop-k : goal.invariant-loop-k
invariant-loop-k l =
    index_from l.k (map (λ (n : NodeTree). n.name) (map node_tree (drop l.k l.nodes))) l.label ≡ index_from 0 (map (λ (n : NodeTree). n.name) (map node_tree l.nodes)) l.label
