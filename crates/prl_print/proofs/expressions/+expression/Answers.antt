use Rattle.std.proofs.Common.{◌++◌, List, ℕ, codes, map, sym, ap, ◌∙◌}
use Rattle.prl_ast.specs.Trees.{root_of, tree_of}
use Rattle.prl_syntax.specs.Trees.{trees_from}
use Rattle.prl_syntax.proofs.Rows.{root_group, root_apply}
use Rattle.prl_print.specs.Printing.{printed_root, printed_trees}
use Rattle.prl_print.proofs.Lists.{enclosed_more, ok_as, ok_after}
use Rattle.prl_print.proofs.expressions.+expression.Goals as goal

pub push_base-returns-in_ok-extend_from_slice-in-Apply : goal.push_base-returns-in_ok-extend_from_slice-in-Apply
push_base-returns-in_ok-extend_from_slice-in-Apply t c =
    let root = ap (λ b. printed_root (root_of b)) c.in-Apply.is ∙ ap printed_root (root_apply c.in-Apply.name c.in-Apply.at c.in-Apply.args) in
    let name = c.in_ok-extend_from_slice-in-Apply.ensures.items ∙ ap (λ (n : List ℕ). c.args.text.now.items ++ n) c.bytes-in-Apply.ensures.bytes in
    let parts = ap (λ xs. c.in-Apply.name ++ (codes "(" ++ printed_trees (trees_from (map tree_of xs)) ++ codes ")")) c.as_slice.ensures.value in
    ok_as _ _ _ _ _ (parts ∙ sym root) (ok_after _ _ _ _ _ _ name c.push_enclosed.ensures)

pub push_base-returns-in-Group : goal.push_base-returns-in-Group
push_base-returns-in-Group t c =
    let root = ap (λ b. printed_root (root_of b)) c.in-Group.is ∙ ap printed_root (root_group c.in-Group.parts) in
    let parts = ap (λ xs. codes "(" ++ printed_trees (trees_from (map tree_of xs)) ++ codes ")") c.as_slice-in-Group.ensures.value in
    ok_as _ _ _ _ _ (parts ∙ sym root) c.push_enclosed-in-Group.ensures

pub push_enclosed-loop-index-preserved : goal.push_enclosed-loop-index-preserved
push_enclosed-loop-index-preserved t c =
    enclosed_more _ _ _ _ c.args.parts.now c.loop-index.index c.index-parts-index.result c.loop-index-test.true c.index-parts-index.is c.loop-index.invariant c.in_ok-push_comma.ensures c.in_ok-push_expr.ensures
