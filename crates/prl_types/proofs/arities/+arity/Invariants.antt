use Rattle.std.proofs.Common.{drop}
use Rattle.prl_ast.specs.Trees.{program_tree}
use Rattle.prl_names.specs.ExprLists.{all_trees}
use Rattle.prl_types.proofs.Counting.{ArePartsCounted}
use Rattle.prl_types.proofs.arities.+arity.Given as goal

abbrev pub invariant-parts-loop-expr : goal.invariant-parts-loop-expr
invariant-parts-loop-expr l = ArePartsCounted (program_tree l.context) l.node (all_trees l.exprs) (all_trees (drop l.expr-index l.exprs)) l.flows l.fault
