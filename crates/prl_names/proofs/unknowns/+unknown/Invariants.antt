use Rattle.std.proofs.Common.{◌≡◌, drop}
use Rattle.prl_ast.specs.Trees.{program_tree}
use Rattle.prl_names.specs.Vocabulary.{all_trees, unknown_trees}
use Rattle.prl_names.proofs.unknowns.+unknown.Given as goal

abbrev pub invariant-unknown_trees-loop-expr : goal.invariant-unknown_trees-loop-expr
invariant-unknown_trees-loop-expr l =
    unknown_trees (program_tree l.names) l.node (all_trees (drop l.expr-index l.exprs)) ≡ unknown_trees (program_tree l.names) l.node (all_trees l.exprs)
