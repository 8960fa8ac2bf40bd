-- The arguments of an application and the parts of a group, as a list.
use Rattle.std.proofs.Common.{◌≡◌, refl, ap, ◌∙◌, List, Vec, Global}
use mathlib.Core.Former.{Count}
use Rattle.prl_base.specs.declared.places.Span.{Span}
use Rattle.prl_ast.specs.declared.expressions.Base.{Base, Apply, Group, Apply', Group', Row_of-Expr, end_of-Expr, more_of-Expr, items-the_row-Expr, items_hidden-the_row-Expr-0}
use Rattle.prl_ast.specs.declared.expressions.Expr.{Expr}
use Rattle.prl_ast.specs.Trees.{apply, group, more, tree, root_of, trees_of}
use Rattle.prl_names.specs.ExprLists.{all_trees}

trees_row : (n : _) (row : Row_of-Expr n) → trees_of row ≡ all_trees (items-the_row-Expr n row)
trees_row n end_of-Expr = refl
trees_row n (more_of-Expr pre base post at rest) = ap (more (tree pre (root_of base) post at)) (trees_row _ rest)

abbrev row_of : Base → (n : Count) × Row_of-Expr n
row_of (Apply' name at shape args) = (_, args)
row_of (Group' shape parts) = (_, parts)
row_of _ = (_, end_of-Expr)

pub root_of_Apply : (name : List _) (at : Span) (args : Vec Expr Global) → root_of (Apply name at args) ≡ apply name at (all_trees args.items)
root_of_Apply name at args =
    let row = row_of (Apply name at args) in
    ap (apply name at) (trees_row row.0 row.1 ∙ ap all_trees (items_hidden-the_row-Expr-0 args))

pub root_of_Group : (parts : Vec Expr Global) → root_of (Group parts) ≡ group (all_trees parts.items)
root_of_Group parts =
    let row = row_of (Group parts) in
    ap group (trees_row row.0 row.1 ∙ ap all_trees (items_hidden-the_row-Expr-0 parts))
