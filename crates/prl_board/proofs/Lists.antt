-- Lists of which one place is read or set.
use Rattle.prl_base.proofs.Standard.{◌≡◌, ◌≢◌, ℕ, zero, suc, ◌<◌, ◌⊎◌, refl, ap, inl, inr, ⊎_elim, arith, set, get_or, length, List, [], ◌∷◌, Some, slice_get, slice_get_read}

-- what is read at a place stands there
pub read_there : {A : Type 0} (xs : List A) (i : ℕ) (x : A) → i < length xs → x ≡ get_or xs i x → slice_get xs i ≡ Some x
read_there xs i x below is = slice_get_read xs (length xs) i x refl below is

-- what stands in a list of which one place was set
pub set_at : {A : Type 0} (xs : List A) (i j : ℕ) (a b : A) → slice_get (set xs i a) j ≡ Some b → ((j ≡ i) × (a ≡ b)) ⊎ ((j ≢ i) × (slice_get xs j ≡ Some b))
set_at [] i j a b e = absurd (cc e)
set_at (x ∷ xs) zero zero a b e = inl (refl, cc e)
set_at (x ∷ xs) zero (suc j) a b e = inr ((λ h. omega arith), e)
set_at (x ∷ xs) (suc i) zero a b e = inr ((λ h. omega arith), e)
set_at (x ∷ xs) (suc i) (suc j) a b e = ⊎_elim (λ t. inl (ap suc t.0, t.1)) (λ t. let n = t.0 in inr ((λ h. n (omega arith)), t.1)) (set_at xs i j a b e)

pub set_here : {A : Type 0} (xs : List A) (i : ℕ) (a b : A) → slice_get xs i ≡ Some b → slice_get (set xs i a) i ≡ Some a
set_here [] i a b e = absurd (cc e)
set_here (x ∷ xs) zero a b e = refl
set_here (x ∷ xs) (suc i) a b e = set_here xs i a b e

pub set_else : {A : Type 0} (xs : List A) (i j : ℕ) (a : A) → j ≢ i → slice_get (set xs i a) j ≡ slice_get xs j
set_else [] i j a ne = refl
set_else (x ∷ xs) zero zero a ne = absurd (ne refl)
set_else (x ∷ xs) zero (suc j) a ne = refl
set_else (x ∷ xs) (suc i) zero a ne = refl
set_else (x ∷ xs) (suc i) (suc j) a ne = set_else xs i j a (λ e. ne (ap suc e))

-- within its length a list has an item
pub seat_there : {A : Type 0} (xs : List A) (i : ℕ) → i < length xs → (a : A) × (slice_get xs i ≡ Some a)
seat_there [] i below = absurd (omega (arith, below))
seat_there (x ∷ xs) zero below = (x, refl)
seat_there (x ∷ xs) (suc i) below = seat_there xs i (omega (arith, below))
