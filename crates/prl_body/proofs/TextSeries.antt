-- The rights of a series of a text, as a list.
use Rattle.std.proofs.Common.{◌≡◌, refl, ap, ◌∙◌, Vec, Global}
use mathlib.Core.Former.{Count}
use Rattle.std.specs.declared.boxed.Box.{Box}
use Rattle.prl_body.specs.declared.texts.Expr.{Expr, Series, Series', Row_of-ExprRight, end_of-ExprRight, more_of-ExprRight, items-the_row-ExprRight, items_hidden-the_row-ExprRight-0}
use Rattle.prl_body.specs.declared.texts.ExprRight.{ExprRight}
use Rattle.prl_body.specs.Texts.{series, more, tree_of, tree_rights, pair_trees}

tree_rights_row : (n : _) (row : Row_of-ExprRight n) → tree_rights row ≡ pair_trees (items-the_row-ExprRight n row)
tree_rights_row n end_of-ExprRight = refl
tree_rights_row n (more_of-ExprRight operator at right rest) = ap (more operator at (tree_of right)) (tree_rights_row _ rest)

abbrev row_of : Expr → (n : Count) × Row_of-ExprRight n
row_of (Series' p first shape rights) = (_, rights)
row_of _ = (_, end_of-ExprRight)

pub tree_of_Series : (first : Box Expr Global) (rights : Vec ExprRight Global) →
    tree_of (Series first rights) ≡ series (tree_of first.value) (pair_trees rights.items)
tree_of_Series first rights =
    let row = row_of (Series first rights) in
    ap (series (tree_of first.value)) (tree_rights_row row.0 row.1 ∙ ap pair_trees (items_hidden-the_row-ExprRight-0 rights))
