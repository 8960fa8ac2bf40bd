-- The operators of a list of words, one after another.
use Rattle.prl_base.proofs.Standard.{◌≡◌, ◌++◌, ◌<◌, ℕ, false, List, [], ◌∷◌, Option, Some, None, append_assoc, cond, length, codes, refl, ap, sym, ◌∙◌, arith, bytes_eq}
use Rattle.prl_base.specs.declared.operators.Op.{Op}
use Rattle.prl_base.specs.declared.operators.Op.TheVariants as operators
use Rattle.prl_plantext.specs.code.Graphs.{first_of, operator_in, operators_in, rest_of, with_operator}

pub operators_of_other : (words : List (List ℕ)) → 0 < length words → bytes_eq (first_of words) (codes "tail") ≡ false →
    operators_in words ≡ with_operator (operator_in (first_of words) (first_of (rest_of words))) (operators_in (rest_of (rest_of words)))
operators_of_other [] some is = absurd (omega (arith, some))
operators_of_other (word ∷ []) some is = ap (λ t. cond t (operators.Tail ∷ []) (with_operator (operator_in word []) [])) is
operators_of_other (word ∷ argument ∷ words) some is =
    ap (λ t. cond t (operators.Tail ∷ operators_in (argument ∷ words)) (with_operator (operator_in word argument) (operators_in words))) is

-- with operators before them

pub with_one_more : (ops : List Op) (op : Op) (words : List (List ℕ)) → 0 < length words → bytes_eq (first_of words) (codes "tail") ≡ false →
    operator_in (first_of words) (first_of (rest_of words)) ≡ Some op →
    (ops ++ op ∷ []) ++ operators_in (rest_of (rest_of words)) ≡ ops ++ operators_in words
with_one_more ops op words some other is =
    append_assoc ops (op ∷ []) (operators_in (rest_of (rest_of words)))
    ∙ ap (λ l. ops ++ l) (sym (operators_of_other words some other ∙ ap (λ o. with_operator o (operators_in (rest_of (rest_of words)))) is))

pub with_none_more : (ops : List Op) (words : List (List ℕ)) → 0 < length words → bytes_eq (first_of words) (codes "tail") ≡ false →
    operator_in (first_of words) (first_of (rest_of words)) ≡ None →
    ops ++ operators_in (rest_of (rest_of words)) ≡ ops ++ operators_in words
with_none_more ops words some other is =
    ap (λ l. ops ++ l) (sym (operators_of_other words some other ∙ ap (λ o. with_operator o (operators_in (rest_of (rest_of words)))) is))

pub nothing_is_none : (o : Option Op) → ((op : Op) → o ≡ Some op → ⊥) → o ≡ None
nothing_is_none None never = refl
nothing_is_none (Some op) never = absurd (never op refl)
