-- What stands in a list to which an element was added.
use Rattle.prl_base.proofs.Standard.{◌≡◌, ◌<◌, ◌++◌, ℕ, zero, suc, List, [], ◌∷◌, Some, length, refl, arith, slice_get, slice_index}

pub get_left : {A : Type 0} (xs ys : List A) (n : ℕ) → n < length xs → slice_get (xs ++ ys) n ≡ slice_get xs n
get_left [] ys n h = absurd (omega (arith, h))
get_left (x ∷ xs) ys zero h = refl
get_left (x ∷ xs) ys (suc n) h = get_left xs ys n (omega (arith, h))

pub get_last : {A : Type 0} (xs : List A) (x : A) (n : ℕ) → n ≡ length xs → slice_get (xs ++ x ∷ []) n ≡ Some x
get_last [] x zero is = refl
get_last [] x (suc n) is = absurd (omega (arith, is))
get_last (y ∷ xs) x zero is = absurd (omega (arith, is))
get_last (y ∷ xs) x (suc n) is = get_last xs x n (omega (arith, is))

pub index_left : (xs ys : List ℕ) (n : ℕ) → n < length xs → slice_index (xs ++ ys) n ≡ slice_index xs n
index_left [] ys n h = absurd (omega (arith, h))
index_left (x ∷ xs) ys zero h = refl
index_left (x ∷ xs) ys (suc n) h = index_left xs ys n (omega (arith, h))

pub index_last : (xs : List ℕ) (x n : ℕ) → n ≡ length xs → slice_index (xs ++ x ∷ []) n ≡ x
index_last [] x zero is = refl
index_last [] x (suc n) is = absurd (omega (arith, is))
index_last (y ∷ xs) x zero is = absurd (omega (arith, is))
index_last (y ∷ xs) x (suc n) is = index_last xs x n (omega (arith, is))
