use Rattle.std.proofs.Common.{◌≡◌, drop, map}
use Rattle.prl_ast.specs.Trees.{program_tree, node_tree}
use Rattle.prl_names.specs.Unknowns.{unknown_from}
use Rattle.prl_names.proofs.unknowns.unknown.Given as goal

abbrev pub invariant-loop-k : goal.invariant-loop-k
invariant-loop-k l = unknown_from (program_tree l.names) l.k (map node_tree (drop l.k l.names.nodes)) ≡ unknown_from (program_tree l.names) 0 (map node_tree l.names.nodes)
