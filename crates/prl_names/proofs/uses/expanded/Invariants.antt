use Rattle.std.proofs.Common.{◌≡◌, ◌++◌, drop, map}
use Rattle.prl_ast.specs.Trees.{program_tree, node_tree}
use Rattle.prl_names.specs.Vocabulary.{names_in, expanded_from, expanded_names}
use Rattle.prl_names.proofs.uses.expanded.Given as goal

abbrev pub invariant-loop-k : goal.invariant-loop-k
invariant-loop-k l =
    names_in l.list.items ++ expanded_from (program_tree l.names) l.main l.k (map node_tree (drop l.k l.names.nodes)) ≡ expanded_names (program_tree l.names) l.main
