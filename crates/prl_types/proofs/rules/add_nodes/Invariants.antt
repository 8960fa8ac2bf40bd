use Rattle.std.proofs.Common.{◌≡◌, ◌++◌, map, drop}
use Rattle.prl_ast.specs.Trees.{program_tree, node_tree}
use Rattle.prl_types.specs.Rules.{nodes_rules}
use Rattle.prl_types.proofs.rules.add_nodes.Given as goal

abbrev pub invariant-loop-k : goal.invariant-loop-k
invariant-loop-k l = (l.rules.count ≡ l.initial.rules.count) × (l.rules.rules ++ nodes_rules (program_tree l.context) l.k (map node_tree (drop l.k l.nodes)) ≡ l.initial.rules.rules ++ nodes_rules (program_tree l.context) 0 (map node_tree l.nodes))
