-- The rights of a series, as the tree has them.
use Rattle.std.proofs.Common.{◌≡◌, ◌<◌, List, [], ◌∷◌, map, length, refl, ap, arith}
use Rattle.prl_body.specs.Texts.{Tree, series, more, tree_of, pair_trees}
use Rattle.prl_body.specs.declared.texts.ExprRight.{ExprRight}
use Rattle.prl_bodytext.specs.Trees.{rights_from, pair_view, in_series}

rights_viewed : (ls : List ExprRight) → pair_trees ls ≡ rights_from (map pair_view ls)
rights_viewed [] = refl
rights_viewed (l ∷ ls) = ap (more l.operator l.at (tree_of l.right)) (rights_viewed ls)

pub some_rights : (t : Tree) (ls : List ExprRight) → 0 < length ls → series t (pair_trees ls) ≡ in_series t (map pair_view ls)
some_rights t [] lt = absurd (omega arith)
some_rights t (l ∷ ls) lt = ap (series t) (rights_viewed (l ∷ ls))
