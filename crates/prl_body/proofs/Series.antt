-- The value of a series along the list of its rights.
use Rattle.std.proofs.Common.{◌≡◌, List, [], ◌∷◌, refl, ap, ◌∙◌}
use mathlib.Core.Former.{Count}
use Rattle.std.specs.declared.boxed.Box.{Box}
use Rattle.std.specs.declared.vec.Vec.{Vec}
use Rattle.std.specs.declared.alloc.Global.{Global}
use Rattle.prl_base.specs.declared.values.Value.{Value}
use Rattle.prl_body.specs.Vocabulary.{Code, Row_of-OperatorAndRight, Series', end_of-OperatorAndRight, more_of-OperatorAndRight, items-the_row-OperatorAndRight}
use Rattle.prl_body.specs.Vocabulary.{items_hidden-the_row-OperatorAndRight-0, OperatorAndRight, expression_of, rights_of, value, value_along}
use Rattle.prl_body.specs.declared.codes.Code.{Series}
use Rattle.prl_base.specs.BodyOperators.{result_of}

abbrev pub along : List Value → List Value → Value → List OperatorAndRight → Value
along inputs registers left [] = left
along inputs registers left (pair ∷ rights) =
    along inputs registers (result_of pair.operator left (value inputs registers (expression_of pair.right))) rights

pub value_along_row : (inputs registers : List Value) (left : Value) (n : _) (row : Row_of-OperatorAndRight n) →
    value_along inputs registers left (rights_of row) ≡ along inputs registers left (items-the_row-OperatorAndRight n row)
value_along_row inputs registers left n end_of-OperatorAndRight = refl
value_along_row inputs registers left n (more_of-OperatorAndRight operator right rest) =
    value_along_row inputs registers (result_of operator left (value inputs registers (expression_of right))) _ rest

abbrev row_of : Code → (n : Count) × Row_of-OperatorAndRight n
row_of (Series' p first shape rights) = (_, rights)
row_of _ = (_, end_of-OperatorAndRight)

pub value_Series : (inputs registers : List Value) (first : Box Code Global) (rights : Vec OperatorAndRight Global) →
    value inputs registers (expression_of (Series first rights))
    ≡ along inputs registers (value inputs registers (expression_of first.value)) rights.items
value_Series inputs registers first rights =
    let row = row_of (Series first rights) in
    value_along_row inputs registers (value inputs registers (expression_of first.value)) row.0 row.1
    ∙ ap (along inputs registers (value inputs registers (expression_of first.value))) (items_hidden-the_row-OperatorAndRight-0 rights)
