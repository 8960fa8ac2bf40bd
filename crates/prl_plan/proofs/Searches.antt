-- Searches among the numbers below a bound, and lists by what stands at each place.
use Rattle.prl_base.proofs.Standard.{◌≡◌, ◌+◌, ◌<◌, ◌⊎◌, ℕ, zero, suc, List, [], ◌∷◌, length, get_or, refl, ap, inl, inr, arith, subst, Option, Some, None, slice_get, slice_index, cases_lt, same_Some}

-- of the numbers below a bound all have one of two properties, or there is a least one that has the other
pub record IsLeastSuch (P Q : ℕ → Type 0) (bound k : ℕ) : Type 0 where
  pub below : k < bound
  pub is : Q k
  pub earlier : (j : ℕ) → j < k → P j

abbrev pub AllOrLeast : (ℕ → Type 0) → (ℕ → Type 0) → ℕ → Type 0
AllOrLeast P Q bound = ((k : ℕ) → k < bound → P k) ⊎ ((k : ℕ) × IsLeastSuch P Q bound k)

next : (n : ℕ) → n + 1 ≡ suc n
next n = omega arith

module _ (P Q : ℕ → Type 0) (decides : (k : ℕ) → P k ⊎ Q k) where
  one_more : (n : ℕ) → ((k : ℕ) → k < n → P k) → P n → (k : ℕ) → k < n + 1 → P k
  one_more n all here k lt = elim (cases_lt k n) [
    | inl below ↦ all k below
    | inr past ↦ let same : n ≡ k = omega arith in subst P same here
  ]

  wider : (n k : ℕ) → IsLeastSuch P Q n k → IsLeastSuch P Q (n + 1) k
  wider n k h = let below : k < n = h.below in record { below = omega arith; is = h.is; earlier = h.earlier }

  pub all_or_least : (bound : ℕ) → AllOrLeast P Q bound
  all_or_least zero = inl (λ k lt. absurd (omega arith))
  all_or_least (suc n) = subst (AllOrLeast P Q) (next n) (elim (all_or_least n) [
    | inl all ↦ elim (decides n) [
      | inl here ↦ inl (one_more n all here)
      | inr other ↦ inr (n, record { below = omega arith; is = other; earlier = all })
    ]
    | inr least ↦ inr (least.0, wider n least.0 least.1)
  ])

-- what f gives for the numbers below n, in their order
pub listed : {A : Type 0} → (ℕ → A) → ℕ → List A
listed f zero = []
listed f (suc n) = f zero ∷ listed (λ k. f (suc k)) n

pub listed_long : {A : Type 0} (f : ℕ → A) (n : ℕ) → length (listed f n) ≡ n
unfolding listed
listed_long f zero = refl
listed_long f (suc n) = ap suc (listed_long (λ k. f (suc k)) n)

pub listed_at : {A : Type 0} (f : ℕ → A) (n k : ℕ) → k < n → slice_get (listed f n) k ≡ Some (f k)
unfolding listed
listed_at f zero k below = absurd (omega (arith, below))
listed_at f (suc n) zero below = refl
listed_at f (suc n) (suc k) below = listed_at (λ k. f (suc k)) n k (omega (arith, below))

pub listed_number : (f : ℕ → ℕ) (n k : ℕ) → k < n → slice_index (listed f n) k ≡ f k
unfolding listed
listed_number f zero k below = absurd (omega (arith, below))
listed_number f (suc n) zero below = refl
listed_number f (suc n) (suc k) below = listed_number (λ k. f (suc k)) n k (omega (arith, below))

pub listed_or : {A : Type 0} (f : ℕ → A) (n k : ℕ) (d : A) → k < n → get_or (listed f n) k d ≡ f k
unfolding listed
listed_or f zero k d below = absurd (omega (arith, below))
listed_or f (suc n) zero d below = refl
listed_or f (suc n) (suc k) d below = listed_or (λ k. f (suc k)) n k d (omega (arith, below))

-- where the elements can be told apart, so can what stands at two places of a list
pub places_tell : {A : Type 0} → ((a b : A) → (a ≡ b) ⊎ (a ≡ b → ⊥)) → (xs : List A) (i j : ℕ) → (slice_get xs i ≡ slice_get xs j) ⊎ (slice_get xs i ≡ slice_get xs j → ⊥)
places_tell {A} tells xs i j = same_or_not (slice_get xs i) (slice_get xs j)
  where
    same_or_not : (a b : Option A) → (a ≡ b) ⊎ (a ≡ b → ⊥)
    same_or_not None None = inl refl
    same_or_not None (Some b) = inr (λ same. cc)
    same_or_not (Some a) None = inr (λ same. cc)
    same_or_not (Some a) (Some b) = elim (tells a b) [ inl same ↦ inl (ap (λ (x : A). Some x) same) | inr apart ↦ inr (λ same. apart (same_Some a b same)) ]
