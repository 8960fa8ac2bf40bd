use Rattle.std.proofs.Common.{◌≡◌, map, drop}
use Rattle.prl_ast.specs.Trees.{program_tree, node_tree}
use Rattle.prl_types.specs.Arity.{first_at, nodes_faults}
use Rattle.prl_types.proofs.arities.arity_fault.Given as goal

abbrev pub invariant-loop-k : goal.invariant-loop-k
invariant-loop-k l = first_at (nodes_faults (program_tree l.context) l.k (map node_tree (drop l.k l.context.nodes))) ≡ first_at (nodes_faults (program_tree l.context) 0 (map node_tree l.context.nodes))
