-- Lists with a place set or one element more, read by place.
use Rattle.prl_base.proofs.Standard.{◌≡◌, ◌≢◌, ◌<◌, ◌++◌, ◌⊎◌, ℕ, zero, suc, List, [], ◌∷◌, length, set, take, Some, inl, inr, refl, sym, ◌∙◌, subst, arith, ap, slice_get}

pub slice_get_set_same : {A : Type 0} (xs : List A) (i : ℕ) (v : A) → i < length xs → slice_get (set xs i v) i ≡ Some v
slice_get_set_same [] i v h = absurd (omega arith)
slice_get_set_same (x ∷ xs) zero v h = refl
slice_get_set_same (x ∷ xs) (suc i) v h = slice_get_set_same xs i v (omega arith)

pub slice_get_set_other : {A : Type 0} (xs : List A) (i j : ℕ) (v : A) → j ≢ i → slice_get (set xs i v) j ≡ slice_get xs j
slice_get_set_other [] i j v h = refl
slice_get_set_other (x ∷ xs) zero zero v h = absurd (h refl)
slice_get_set_other (x ∷ xs) zero (suc j) v h = refl
slice_get_set_other (x ∷ xs) (suc i) zero v h = refl
slice_get_set_other (x ∷ xs) (suc i) (suc j) v h = slice_get_set_other xs i j v (λ e. h (ap (λ n. suc n) e))

-- the front of a list has its elements
pub slice_get_take : {A : Type 0} (xs : List A) (n i : ℕ) → i < n → slice_get (take n xs) i ≡ slice_get xs i
slice_get_take [] zero i h = refl
slice_get_take [] (suc n) i h = refl
slice_get_take (x ∷ xs) zero i h = absurd (omega arith)
slice_get_take (x ∷ xs) (suc n) zero h = refl
slice_get_take (x ∷ xs) (suc n) (suc i) h = slice_get_take xs n i (omega arith)

-- an element of a list with one more is one of the list, or the last
push_cases : {A : Type 0} (xs : List A) (y x : A) (j : ℕ) → slice_get (xs ++ y ∷ []) j ≡ Some x → (slice_get xs j ≡ Some x) ⊎ ((j ≡ length xs) × (y ≡ x))
push_cases [] y x zero h = inr (refl, cc)
push_cases [] y x (suc j) h = absurd cc
push_cases (z ∷ xs) y x zero h = inl h
push_cases (z ∷ xs) y x (suc j) h = elim (push_cases xs y x j h) [
  | inl before ↦ inl before
  | inr last ↦ inr (omega (arith, last.0), last.1)
]

-- one element more, for which holds what does of each
pub each_more : {A : Type 0} (P : ℕ → A → Type 0) (before after : List A) (i : ℕ) (next : A) → after ≡ before ++ next ∷ [] → length before ≡ i →
    ((j : ℕ) (kept : A) → slice_get before j ≡ Some kept → P j kept) → P i next → (j : ℕ) (kept : A) → slice_get after j ≡ Some kept → P j kept
each_more P before after i next is long each here j kept at =
    elim (push_cases before next kept j (ap (λ (xs : List _). slice_get xs j) (sym is) ∙ at)) [
      | inl old ↦ each j kept old
      | inr new ↦
          (let e : i ≡ j = omega (arith, new.0, long) in
          subst (λ x. P j x) new.1 (subst (λ (k : ℕ). P k next) e here))
    ]
