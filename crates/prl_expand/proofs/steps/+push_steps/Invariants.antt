use Rattle.std.proofs.Common.{◌≡◌, ◌++◌, drop}
use Rattle.prl_names.specs.ExprLists.{all_trees}
use Rattle.prl_expand.specs.code.Acts.{acts_of, all_steps}
use Rattle.prl_expand.proofs.steps.+push_steps.Given as goal

abbrev pub invariant-push_all-loop-expr : goal.invariant-push_all-loop-expr
invariant-push_all-loop-expr l = acts_of l.list.items ++ all_steps (all_trees (drop l.expr-index l.exprs)) ≡ acts_of l.initial.list.items ++ all_steps (all_trees l.exprs)
