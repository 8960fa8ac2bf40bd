-- Lists of numbers with a place set, and the elements of two lists.
use Rattle.prl_base.proofs.Standard.{◌≡◌, ◌≢◌, ◌+◌, ◌++◌, ◌<◌, ◌⊎◌, ℕ, zero, suc, List, [], ◌∷◌, Some, length, get_or, set, inl, inr, ap, arith, slice_get, cases_eq, get_or-set_at}
use Rattle.std.proofs.Common.{get_or-set_other}

-- an element of a list with place i set: the new one, or as it was
pub get_set : (xs : List ℕ) (i v j : ℕ) → i < length xs →
    ((j ≡ i) × (get_or (set xs i v) j 0 ≡ v)) ⊎ ((j ≢ i) × (get_or (set xs i v) j 0 ≡ get_or xs j 0))
get_set xs i v j h =
    elim (cases_eq j i) [
      | inl same ↦ inl (same, get_or-set_at xs i j v 0 same h)
      | inr other ↦ inr (other, get_or-set_other xs i j v 0 other)
    ]

-- an element of the first of two lists, and one of the second
pub get_left : {A : Type 0} (xs ys : List A) (k : ℕ) (a : A) → slice_get xs k ≡ Some a → slice_get (xs ++ ys) k ≡ Some a
get_left [] ys k a h = cc
get_left (x ∷ xs) ys zero a h = h
get_left (x ∷ xs) ys (suc k) a h = get_left xs ys k a h

pub get_right : {A : Type 0} (xs ys : List A) (k j : ℕ) → k ≡ length xs + j → slice_get (xs ++ ys) k ≡ slice_get ys j
get_right [] ys k j is = ap (λ (n : ℕ). slice_get ys n) (let e : k ≡ j = omega (arith, is) in e)
get_right (x ∷ xs) ys zero j is = absurd (omega (arith, is))
get_right (x ∷ xs) ys (suc k) j is = get_right xs ys k j (omega (arith, is))
