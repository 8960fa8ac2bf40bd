-- What a vector of expressions is seen as.
use Rattle.std.proofs.Common.{◌≡◌, ℕ, Vec, Global, List, map, refl, ap, ◌∙◌}
use Rattle.prl_base.specs.declared.places.Span.{Span}
use Rattle.prl_ast.specs.declared.expressions.Expr.{Expr}
use Rattle.prl_ast.specs.declared.expressions.Base.{Base, Const, Var, Apply', Group', Apply, Group, Row_of-Expr, end_of-Expr, more_of-Expr, items-the_row-Expr, items_hidden-the_row-Expr-0}
use Rattle.prl_ast.specs.Trees.{tree, apply, group, more, root_of, trees_of, tree_of}
use Rattle.prl_syntax.specs.Trees.{trees_from}

pub row_trees : (m : _) (row : Row_of-Expr m) → trees_of row ≡ trees_from (map tree_of (items-the_row-Expr m row))
row_trees _ end_of-Expr = refl
row_trees _ (more_of-Expr pre base post at rest) = ap (more (tree pre (root_of base) post at)) (row_trees _ rest)

abbrev row_of : Base → (n : _) × Row_of-Expr n
row_of (Const v) = (_, end_of-Expr)
row_of (Var name) = (_, end_of-Expr)
row_of (Apply' name at shape row) = (_, row)
row_of (Group' shape row) = (_, row)

pub root_group : (parts : Vec Expr Global) → root_of (Group parts) ≡ group (trees_from (map tree_of parts.items))
root_group parts =
    let row = row_of (Group parts) in
    ap group (row_trees row.0 row.1 ∙ ap (λ xs. trees_from (map tree_of xs)) (items_hidden-the_row-Expr-0 parts))

pub root_apply : (name : List ℕ) (at : Span) (args : Vec Expr Global) → root_of (Apply name at args) ≡ apply name at (trees_from (map tree_of args.items))
root_apply name at args =
    let row = row_of (Apply name at args) in
    ap (apply name at) (row_trees row.0 row.1 ∙ ap (λ xs. trees_from (map tree_of xs)) (items_hidden-the_row-Expr-0 args))
