use Rattle.std.proofs.Common.{◌≡◌, ◌++◌, drop}
use Rattle.prl_names.specs.Vocabulary.{all_trees, names_in, all_applied}
use Rattle.prl_names.proofs.uses.+push_applied.Given as goal

abbrev pub invariant-push_all_applied-loop-expr : goal.invariant-push_all_applied-loop-expr
invariant-push_all_applied-loop-expr l =
    names_in l.list.items ++ all_applied (all_trees (drop l.expr-index l.exprs)) ≡ names_in l.initial.list.items ++ all_applied (all_trees l.exprs)
