-- Lists of expressions as trees.
use Rattle.std.specs.Prelude.{List, [], ◌∷◌}
use Rattle.prl_ast.specs.declared.expressions.Expr.{Expr}
use Rattle.prl_ast.specs.Trees.{Trees, none, more, tree_of}

abbrev pub all_trees : List Expr → Trees
all_trees [] = none
all_trees (e ∷ es) = more (tree_of e) (all_trees es)
