use Rattle.std.proofs.Common.{take}
use Rattle.prl_ast.specs.Trees.{program_tree}
use Rattle.prl_names.specs.Vocabulary.{applied_trees, all_trees, Adds}
use Rattle.prl_names.proofs.applications.+mark.Given as goal

abbrev pub invariant-mark_all-loop-expr : goal.invariant-mark_all-loop-expr
invariant-mark_all-loop-expr l = Adds (λ j. applied_trees (program_tree l.names) j (all_trees (take l.expr-index l.exprs))) l.initial.row l.row
