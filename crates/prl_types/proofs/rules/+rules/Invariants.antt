use Rattle.std.proofs.Common.{◌≡◌, ◌++◌, drop}
use Rattle.prl_ast.specs.Trees.{program_tree}
use Rattle.prl_names.specs.ExprLists.{all_trees}
use Rattle.prl_types.specs.Vocabulary.{placed_flows, all_rules, flows_in}
use Rattle.prl_types.proofs.rules.+rules.Given as goal

abbrev pub invariant-parts-loop-expr : goal.invariant-parts-loop-expr
invariant-parts-loop-expr l =
    (l.rules.count ≡ l.initial.rules.count)
    × (flows_in l.list.items ++ placed_flows (program_tree l.context) l.node (all_trees (drop l.expr-index l.exprs)) ≡ placed_flows (program_tree l.context) l.node (all_trees l.exprs))
    × (l.rules.rules ++ all_rules (program_tree l.context) l.node (all_trees (drop l.expr-index l.exprs)) ≡ l.initial.rules.rules ++ all_rules (program_tree l.context) l.node (all_trees l.exprs))
