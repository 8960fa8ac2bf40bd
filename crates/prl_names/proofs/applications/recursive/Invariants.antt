use Rattle.std.proofs.Common.{◌≡◌, drop, map}
use Rattle.prl_ast.specs.Trees.{program_tree, node_tree}
use Rattle.prl_names.specs.Applications.{recursive_from}
use Rattle.prl_names.proofs.applications.recursive.Given as goal

abbrev pub invariant-loop-k : goal.invariant-loop-k
invariant-loop-k l = recursive_from (program_tree l.names) l.k (map node_tree (drop l.k l.names.nodes)) ≡ recursive_from (program_tree l.names) 0 (map node_tree l.names.nodes)
