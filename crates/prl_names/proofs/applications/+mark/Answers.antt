use Rattle.std.proofs.Common.{◌||◌, ℕ, sym, ◌∙◌, ap}
use Rattle.prl_ast.specs.Trees.{program_tree, root_of}
use Rattle.prl_names.specs.Vocabulary.{is_node, applied_root, applied_trees, all_trees, callee_of, Adds}
use Rattle.prl_names.proofs.Marking.{adds_then, adds_same, applied_step}
use Rattle.prl_names.proofs.Rows.{root_of_Apply, root_of_Group}
use Rattle.prl_names.proofs.applications.+mark.Goals as goal

pub mark-returns-in-Apply : goal.mark-returns-in-Apply
mark-returns-in-Apply t c =
    let p = program_tree c.args.names.now in
    let name = c.in-Apply.name in
    let args = all_trees c.in-Apply.args.items in
    let callee = λ (j : ℕ). is_node j (callee_of p name) in
    let others = λ (j : ℕ). applied_trees p j args in
    let others_are : Adds others c.mark_callee.new.row c.mark_all.new.row = rw c.deref.ensures.value at c.mark_all.ensures in
    let whole = ap root_of c.in-Apply.is ∙ root_of_Apply name c.in-Apply.at c.in-Apply.args in
    adds_same (λ j. callee j || others j) (λ j. applied_root p j (root_of c.args.expr.now.base)) c.args.row.now c.mark_all.new.row
    (λ j. sym (ap (applied_root p j) whole)) (adds_then callee others c.args.row.now c.mark_callee.new.row c.mark_all.new.row c.mark_callee.ensures others_are)

pub mark-returns-in-Group : goal.mark-returns-in-Group
mark-returns-in-Group t c =
    let p = program_tree c.args.names.now in
    let others = λ (j : ℕ). applied_trees p j (all_trees c.in-Group.parts.items) in
    let others_are : Adds others c.args.row.now c.mark_all-in-Group.new.row = rw c.deref-in-Group.ensures.value at c.mark_all-in-Group.ensures in
    let whole = ap root_of c.in-Group.is ∙ root_of_Group c.in-Group.parts in
    adds_same others (λ j. applied_root p j (root_of c.args.expr.now.base)) c.args.row.now c.mark_all-in-Group.new.row (λ j. sym (ap (applied_root p j) whole)) others_are

pub mark_all-loop-expr-preserved : goal.mark_all-loop-expr-preserved
mark_all-loop-expr-preserved t c =
    applied_step (program_tree c.args.names.now) c.args.exprs.now c.loop-expr.expr-index c.expr-item.result c.args.row.now c.loop-expr.row c.mark.new.row
    c.loop-expr-test.true c.expr-item.is c.loop-expr.invariant c.mark.ensures
