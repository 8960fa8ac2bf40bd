-- The types of series, pair by pair.
use Rattle.std.proofs.Common.{◌≡◌, true, List, [], ◌∷◌, ◌++◌, refl, sym, ap, ◌∙◌, Vec, Global, Result, Ok, Err}
use mathlib.Core.Former.{Count}
use Rattle.std.specs.declared.boxed.Box.{Box}
use Rattle.prl_base.specs.Reading.{◌>>=◌}
use Rattle.prl_base.specs.declared.values.Ty.{Ty}
use Rattle.prl_ast.specs.declared.declarations.Port.{Port}
use Rattle.prl_body.specs.Vocabulary.{Code, Series', Row_of-OperatorAndRight, end_of-OperatorAndRight, more_of-OperatorAndRight, items-the_row-OperatorAndRight}
use Rattle.prl_body.specs.Vocabulary.{items_hidden-the_row-OperatorAndRight-0, OperatorAndRight, BodyFault, RegisterText, expression_of, rights_of, pair_expressions, Expression, Rights, none, Tree}
use Rattle.prl_body.specs.Vocabulary.{TreeRights, ExprRight, tree_of, pair_trees, typed, typed_rights}
use Rattle.prl_body.specs.declared.codes.Code.{Series}
use Rattle.prl_body.specs.Expressions.{series, more}
use Rattle.prl_body.specs.Texts as trees
use Rattle.prl_base.specs.BodyTypes.{are_allowed, operand_type, result_type}

rights_of_row : (n : _) (row : Row_of-OperatorAndRight n) → rights_of row ≡ pair_expressions (items-the_row-OperatorAndRight n row)
rights_of_row n end_of-OperatorAndRight = refl
rights_of_row n (more_of-OperatorAndRight operator right rest) = ap (more operator (expression_of right)) (rights_of_row _ rest)

abbrev row_of : Code → (n : Count) × Row_of-OperatorAndRight n
row_of (Series' p first shape rights) = (_, rights)
row_of _ = (_, end_of-OperatorAndRight)

pub expression_of_Series : (first : Box Code Global) (rights : Vec OperatorAndRight Global) →
    expression_of (Series first rights) ≡ series (expression_of first.value) (pair_expressions rights.items)
expression_of_Series first rights =
    let row = row_of (Series first rights) in
    ap (series (expression_of first.value)) (rights_of_row row.0 row.1 ∙ ap pair_expressions (items_hidden-the_row-OperatorAndRight-0 rights))

abbrev pub with_rights : List OperatorAndRight → Rights → Rights
with_rights [] rest = rest
with_rights (pair ∷ rights) rest = more pair.operator (expression_of pair.right) (with_rights rights rest)

abbrev pub prepended : List OperatorAndRight → Result (Rights × Ty) BodyFault → Result (Rights × Ty) BodyFault
prepended rights (Ok x) = Ok (with_rights rights x.0, x.1)
prepended rights (Err e) = Err e

pub with_rights_none : (rights : List OperatorAndRight) → with_rights rights none ≡ pair_expressions rights
with_rights_none [] = refl
with_rights_none (pair ∷ rights) = ap (more pair.operator (expression_of pair.right)) (with_rights_none rights)

with_rights_push : (rights : List OperatorAndRight) (pair : OperatorAndRight) (rest : Rights) →
    with_rights (rights ++ pair ∷ []) rest ≡ with_rights rights (more pair.operator (expression_of pair.right) rest)
with_rights_push [] pair rest = refl
with_rights_push (first ∷ rights) pair rest = ap (more first.operator (expression_of first.right)) (with_rights_push rights pair rest)

pub prepended_push : (rights : List OperatorAndRight) (pair : OperatorAndRight) (r : Result (Rights × Ty) BodyFault) →
    prepended (rights ++ pair ∷ []) r ≡ prepended rights (r >>= λ y. Ok (more pair.operator (expression_of pair.right) y.0, y.1))
prepended_push rights pair (Ok x) = ap (λ (l : Rights). Ok (l, x.1)) (with_rights_push rights pair x.0)
prepended_push rights pair (Err e) = refl

pub typed_series : (ins : List Port) (registers : List RegisterText) (first : Tree) (rights : TreeRights) (x : Expression) (y : Rights) (left t : Ty) →
    typed ins registers first ≡ Ok (x, left) → typed_rights ins registers left rights ≡ Ok (y, t) →
    typed ins registers (trees.series first rights) ≡ Ok (series x y, t)
typed_series ins registers first rights x y left t is later = rw (is, later) refl

pub fails_series : (ins : List Port) (registers : List RegisterText) (first : Tree) (rights : TreeRights) (x : Expression) (left : Ty) (e : BodyFault) →
    typed ins registers first ≡ Ok (x, left) → typed_rights ins registers left rights ≡ Err e → typed ins registers (trees.series first rights) ≡ Err e
fails_series ins registers first rights x left e is fails = rw (is, fails) refl

pub rights_step : (ins : List Port) (registers : List RegisterText) (ty : Ty) (done : List OperatorAndRight) (pair : ExprRight) (rest : List ExprRight) (right : Code) (right_ty : Ty) (whole : Result (Rights × Ty) BodyFault) →
    typed ins registers (tree_of pair.right) ≡ Ok (expression_of right, right_ty) →
    are_allowed (operand_type pair.operator) ty right_ty ≡ true →
    prepended done (typed_rights ins registers ty (pair_trees (pair ∷ rest))) ≡ whole →
    prepended (done ++ (record { operator = pair.operator; right = right }) ∷ []) (typed_rights ins registers (result_type pair.operator) (pair_trees rest)) ≡ whole
rights_step ins registers ty done pair rest right right_ty whole is allowed before =
    let new : OperatorAndRight = record { operator = pair.operator; right = right } in
    let later = typed_rights ins registers (result_type pair.operator) (pair_trees rest) in
    let same : typed_rights ins registers ty (pair_trees (pair ∷ rest)) ≡ (later >>= λ y. Ok (more pair.operator (expression_of right) y.0, y.1)) = rw (is, allowed) refl in
    prepended_push done new later ∙ sym (ap (prepended done) same) ∙ before
