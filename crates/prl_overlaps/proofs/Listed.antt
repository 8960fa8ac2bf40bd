-- What holds of the elements of a list, one after another.
use Rattle.prl_base.proofs.Standard.{◌≡◌, ◌+◌, ◌<◌, ◌≤◌, ℕ, zero, suc, List, [], ◌∷◌, ◌++◌, length, get_or, Some, inl, inr, ◌∙◌, ap, subst, arith, slice_get, cases_lt, get_or_from_slice_get}
use Rattle.prl_base.proofs.Standard.{slice_get_within}

-- what held of the first k elements and holds of the next one
pub so_far : {X : Type 0} (P : ℕ → X → Type 0) (xs : List X) (k : ℕ) (d : X) → ((j : ℕ) (x : X) → j < k → slice_get xs j ≡ Some x → P j x) →
    P k (get_or xs k d) → (j : ℕ) (x : X) → j < k + 1 → slice_get xs j ≡ Some x → P j x
so_far P xs k d before here j x below at =
    elim (cases_lt j k) [
      | inl earlier ↦ before j x earlier at
      | inr not_earlier ↦
          (let same : k ≡ j = omega (arith, below, not_earlier) in
          let is : get_or xs k d ≡ x = ap (λ (n : ℕ). get_or xs n d) same ∙ get_or_from_slice_get xs j x d at in
          subst (λ (n : ℕ). P n x) same (subst (P k) is here))
    ]

-- of all of them
pub all_so_far : {X : Type 0} (P : ℕ → X → Type 0) (xs : List X) (k : ℕ) → ((j : ℕ) (x : X) → j < k → slice_get xs j ≡ Some x → P j x) → length xs ≤ k →
    (j : ℕ) (x : X) → slice_get xs j ≡ Some x → P j x
all_so_far P xs k before end j x at = before j x (let w = slice_get_within xs j x at in omega (arith, w, end)) at

-- the elements of a list with one more at its end
pub pushed : {X : Type 0} (P : ℕ → X → Type 0) (xs : List X) (y : X) → ((j : ℕ) (x : X) → slice_get xs j ≡ Some x → P j x) → P (length xs) y →
    (j : ℕ) (x : X) → slice_get (xs ++ y ∷ []) j ≡ Some x → P j x
pushed P [] y before here zero x at = subst (P 0) (let e : Some y ≡ Some x = at in cc e) here
pushed P [] y before here (suc j) x at = cc
pushed P (z ∷ zs) y before here zero x at = before 0 x at
pushed P (z ∷ zs) y before here (suc j) x at = pushed (λ k. P (suc k)) zs y (λ k w is. before (suc k) w is) here j x at
