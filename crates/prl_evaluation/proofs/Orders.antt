-- An order of causality has each flow once.
use Rattle.prl_base.proofs.Standard.{◌≡◌, ◌+◌, ◌<◌, ◌||◌, inl, inr, ℕ, zero, suc, Bool, true, false, List, [], ◌∷◌, length, Some, slice_get, refl, sym, ◌∙◌, ap, arith, eqb, list_any, cases_eq}
use Rattle.prl_base.proofs.Standard.{cases_lt, eq-eqb, le-length_from_below, same_Some, slice_get_within}
use Rattle.prl_base.specs.declared.numbers.FlowNo.{FlowNo}
use Rattle.prl_flow.specs.Vocabulary.{FlatProgram, IsOrder}

numbers : List FlowNo → List ℕ
numbers [] = []
numbers (f ∷ fs) = f.0 ∷ numbers fs

without : ℕ → List FlowNo → List ℕ
without b [] = []
without zero (f ∷ fs) = numbers fs
without (suc b) (f ∷ fs) = f.0 ∷ without b fs

numbers_length : (fs : List FlowNo) → length (numbers fs) ≡ length fs
unfolding numbers
numbers_length [] = refl
numbers_length (f ∷ fs) = ap suc (numbers_length fs)

without_length : (b : ℕ) (fs : List FlowNo) → b < length fs → length (without b fs) + 1 ≡ length fs
unfolding without
without_length b [] below = absurd (omega (arith, below))
without_length zero (f ∷ fs) below = omega (arith, numbers_length fs)
without_length (suc b) (f ∷ fs) below = let rest = without_length b fs (omega (arith, below)) in omega (arith, rest)

or_right : (x y : Bool) → y ≡ true → (x || y) ≡ true
or_right true y e = refl
or_right false y e = e

numbers_any : (fs : List FlowNo) (k : ℕ) (x : FlowNo) → slice_get fs k ≡ Some x → list_any (eqb x.0) (numbers fs) ≡ true
unfolding numbers
numbers_any [] k x found = absurd (cc)
numbers_any (f ∷ fs) zero x found =
    let same : eqb x.0 f.0 ≡ true = eq-eqb x.0 f.0 (ap (λ (y : FlowNo). y.0) (sym (same_Some f x found))) in
    rw same refl
numbers_any (f ∷ fs) (suc k) x found = or_right (eqb x.0 f.0) (list_any (eqb x.0) (numbers fs)) (numbers_any fs k x found)

without_any : (b : ℕ) (fs : List FlowNo) (k : ℕ) (x : FlowNo) → slice_get fs k ≡ Some x → (k ≡ b → ⊥) → list_any (eqb x.0) (without b fs) ≡ true
unfolding without
without_any b [] k x found other = absurd (cc)
without_any zero (f ∷ fs) zero x found other = absurd (other refl)
without_any zero (f ∷ fs) (suc k) x found other = numbers_any fs k x found
without_any (suc b) (f ∷ fs) zero x found other =
    let same : eqb x.0 f.0 ≡ true = eq-eqb x.0 f.0 (ap (λ (y : FlowNo). y.0) (sym (same_Some f x found))) in
    rw same refl
without_any (suc b) (f ∷ fs) (suc k) x found other =
    or_right (eqb x.0 f.0) (list_any (eqb x.0) (without b fs)) (without_any b fs k x found (λ e. other (ap suc e)))

module _ (p : FlatProgram) (order : List FlowNo) (is_order : IsOrder p order) where
  -- no place can be spared
  spared : (b : ℕ) → b < length order → ((q : ℕ) → q < length p.flows → (k : ℕ) × (k ≡ b → ⊥) × (slice_get order k ≡ Some (record { 0 = q }))) → ⊥
  spared b below each =
      let enough = le-length_from_below (without b order) (length p.flows) (λ q less.
      let (k, other, found) = each q less in without_any b order k (record { 0 = q }) found other) in
      omega (arith, enough, without_length b order below, is_order.count)

  pub order_within : (b : ℕ) (x : FlowNo) → slice_get order b ≡ Some x → x.0 < length p.flows
  order_within b x found = elim (cases_lt x.0 (length p.flows)) [
    | inl less ↦ less
    | inr past ↦ absurd (spared b (slice_get_within order b x found) (λ q less.
        let (k, at) = is_order.each q less in (
          k,
          λ same. let is : x ≡ record { 0 = q } = same_Some x (record { 0 = q }) (sym found ∙ ap (slice_get order) (sym same) ∙ at) in
              let number : x.0 ≡ q = ap (λ (y : FlowNo). y.0) is in omega (arith, number, past, less),
          at,
        )))
  ]

  pub order_once : (a b : ℕ) (x : FlowNo) → slice_get order a ≡ Some x → slice_get order b ≡ Some x → a ≡ b
  order_once a b x a_found b_found = elim (cases_eq a b) [
    | inl same ↦ same
    | inr other ↦ absurd (spared b (slice_get_within order b x b_found) (λ q less.
        let (k, at) = is_order.each q less in
        elim (cases_eq k b) [
          | inl same ↦
              let is : x ≡ record { 0 = q } = same_Some x (record { 0 = q }) (sym b_found ∙ ap (slice_get order) (sym same) ∙ at) in
              (a, other, a_found ∙ ap Some is)
          | inr apart ↦ (k, apart, at)
        ]))
  ]
