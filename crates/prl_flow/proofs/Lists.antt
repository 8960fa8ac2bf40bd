-- Elements of lists by their numbers.
use Rattle.std.proofs.Common.{◌≡◌, ◌<◌, ℕ, zero, suc, List, [], ◌∷◌, ◌++◌, length, take, slice_get, Some, refl, arith}

pub slice_get_append_left : {A : Type 0} (xs ys : List A) (k : ℕ) → k < length xs → slice_get (xs ++ ys) k ≡ slice_get xs k
slice_get_append_left [] ys k below = absurd (omega arith)
slice_get_append_left (x ∷ xs) ys zero below = refl
slice_get_append_left (x ∷ xs) ys (suc k) below = slice_get_append_left xs ys k (omega arith)

pub slice_get_push : {A : Type 0} (xs : List A) (y : A) → slice_get (xs ++ y ∷ []) (length xs) ≡ Some y
slice_get_push [] y = refl
slice_get_push (x ∷ xs) y = slice_get_push xs y

pub slice_get_take : {A : Type 0} (n : ℕ) (xs : List A) (k : ℕ) → k < n → slice_get (take n xs) k ≡ slice_get xs k
slice_get_take zero xs k below = absurd (omega arith)
slice_get_take (suc n) [] k below = refl
slice_get_take (suc n) (x ∷ xs) zero below = refl
slice_get_take (suc n) (x ∷ xs) (suc k) below = slice_get_take n xs k (omega arith)

-- a list has an element at each number below its length
pub element_at : {A : Type 0} (xs : List A) (k : ℕ) → k < length xs → (x : A) × (slice_get xs k ≡ Some x)
element_at [] k below = absurd (omega arith)
element_at (x ∷ xs) zero below = (x, refl)
element_at (x ∷ xs) (suc k) below = element_at xs k (omega arith)

-- two lists of one length with the same elements are one list
pub same_from_elements : {A : Type 0} (xs ys : List A) → length xs ≡ length ys → ((k : ℕ) → k < length xs → slice_get xs k ≡ slice_get ys k) → xs ≡ ys
same_from_elements [] [] lengths each = refl
same_from_elements [] (y ∷ ys) lengths each = absurd (omega (arith, lengths))
same_from_elements (x ∷ xs) [] lengths each = absurd (omega (arith, lengths))
same_from_elements (x ∷ xs) (y ∷ ys) lengths each =
    let first : Some x ≡ Some y = each zero (omega arith) in
    let rest : xs ≡ ys = same_from_elements xs ys (omega (arith, lengths)) (λ k below. each (suc k) (omega arith)) in
    cc
