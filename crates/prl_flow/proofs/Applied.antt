-- Applications: their arguments, and the steps of a body.
use Rattle.prl_base.proofs.Standard.{◌≡◌, ℕ, zero, suc, List, [], ◌∷◌, length, map, slice_get, slice_index_or, Option, Some, refl, ◌∙◌, ap, subst, pos, unwrap_or, unwrap_or-slice_get}
use Rattle.prl_base.specs.Vocabulary.{IsClock, date_at, type_of}
use Rattle.prl_base.specs.declared.numbers.FlowNo.{FlowNo}
use Rattle.prl_base.specs.declared.operators.Clock.{Clock}
use Rattle.prl_base.specs.declared.values.Ty.{Ty}
use Rattle.prl_base.specs.declared.values.Value.{Value}
use Rattle.prl_base.specs.declared.values.Value.TheVariants as any_value
use Rattle.prl_flow.specs.Vocabulary.{HaveTypes, values_at, value_at, instance_values, FlatProgram, HasType}
use Rattle.prl_flow.proofs.ClockDates.{value_at_date}

-- the n-th date has the n-th values
pub values_at_instance : (c : Clock) (flows : List (List Value)) (n : ℕ) → IsClock c → values_at c flows n ≡ instance_values flows n
values_at_instance c [] n clock = refl
values_at_instance c (xs ∷ flows) n clock =
    let d : Value = any_value.Int (pos 0) in
    let head : unwrap_or (value_at c xs (date_at c n)) d ≡ slice_index_or xs n d =
    ap (λ (o : Option Value). unwrap_or o d) (value_at_date c xs n clock) ∙ unwrap_or-slice_get xs n d in
    ap (λ (v : Value). v ∷ values_at c flows n) head ∙ ap (λ (vs : List Value). slice_index_or xs n d ∷ vs) (values_at_instance c flows n clock)

pub length_HaveTypes : (p : FlatProgram) (flows : List FlowNo) (tys : List Ty) → HaveTypes p flows tys → length flows ≡ length tys
length_HaveTypes p [] [] fit = refl
length_HaveTypes p [] (ty ∷ tys) fit = absurd fit
length_HaveTypes p (flow ∷ flows) [] fit = absurd fit
length_HaveTypes p (flow ∷ flows) (ty ∷ tys) fit = ap suc (length_HaveTypes p flows tys fit.1)

-- one of several values has one of their types
pub type_of_element : (p : FlatProgram) (flows : List FlowNo) (values : List Value) (j : ℕ) (flow : FlowNo) (v : Value)
    → HaveTypes p flows (map type_of values) → slice_get flows j ≡ Some flow → slice_get values j ≡ Some v → HasType p (type_of v) flow
type_of_element p [] values j flow v fit found value = cc
type_of_element p (f ∷ flows) [] j flow v fit found value = cc
type_of_element p (f ∷ flows) (x ∷ values) zero flow v fit found value =
    let same : f ≡ flow = cc in
    let is : x ≡ v = cc in
    subst (λ (y : Value). HasType p (type_of y) flow) is (subst (HasType p (type_of x)) same fit.0)
type_of_element p (f ∷ flows) (x ∷ values) (suc j) flow v fit found value = type_of_element p flows values j flow v fit.1 found value
