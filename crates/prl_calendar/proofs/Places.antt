-- Lists that contain an element, and places of equal clocks.
use Rattle.prl_base.proofs.Standard.{◌≡◌, ◌<◌, ◌⊎◌, inl, inr, ℕ, zero, suc, Bool, List, [], ◌∷◌, ◌++◌, length, slice_index_or, refl, sym, ◌∙◌, ap, subst, arith, eqb, Contains, IsDistinct, cases_lt}
use Rattle.prl_base.proofs.Standard.{cases_order, ne_eqb, get_or_append_left, get_or_default, get_or_push, length_push, IsDistinct-from_apart, apart_from_distinct}
use Rattle.prl_base.specs.declared.operators.Clock.{Clock}
use Rattle.prl_calendar.specs.Calendars.{HasDate}
use Rattle.prl_calendar.specs.Kinds.{AreSame, IsFirst}

pub contains_head : {A : Type 0} (x : A) (xs : List A) → Contains (x ∷ xs) x
contains_head x xs = (0, omega arith, refl)

pub contains_tail : {A : Type 0} (x : A) (xs : List A) (y : A) → Contains xs y → Contains (x ∷ xs) y
contains_tail x xs y (k, below, is) = (suc k, omega (arith, below), is)

pub contains_cases : {A : Type 0} (x : A) (xs : List A) (y : A) → Contains (x ∷ xs) y → (x ≡ y) ⊎ Contains xs y
contains_cases x xs y (zero, below, is) = inl is
contains_cases x xs y (suc k, below, is) = inr (k, omega (arith, below), is)

pub contains_none : {A : Type 0} (y : A) → Contains [] y → ⊥
contains_none y (k, below, is) = omega (arith, below)

pub contains_left : {A : Type 0} (xs : List A) (x y : A) → Contains xs y → Contains (xs ++ x ∷ []) y
contains_left xs x y (k, below, is) = (k, omega (arith, below, length_push xs x), get_or_append_left xs (x ∷ []) y k below ∙ is)

pub contains_push : {A : Type 0} (xs : List A) (x : A) → Contains (xs ++ x ∷ []) x
contains_push xs x = (length xs, omega (arith, length_push xs x), get_or_push xs x x (length xs) refl)

pub contains_push_cases : {A : Type 0} (xs : List A) (x y : A) → Contains (xs ++ x ∷ []) y → (x ≡ y) ⊎ Contains xs y
contains_push_cases [] x y c = contains_cases x [] y c
contains_push_cases (z ∷ xs) x y c = elim (contains_cases z (xs ++ x ∷ []) y c) [
  | inl same ↦ inr (subst (Contains (z ∷ xs)) same (contains_head z xs))
  | inr later ↦ elim (contains_push_cases xs x y later) [ inl same ↦ inl same | inr there ↦ inr (contains_tail z xs y there) ]
]

-- a number that is not there may be added to numbers that differ
pub distinct_push : (xs : List ℕ) (x : ℕ) → IsDistinct eqb xs → (Contains xs x → ⊥) → IsDistinct eqb (xs ++ x ∷ [])
distinct_push xs x distinct fresh =
    IsDistinct-from_apart eqb (xs ++ x ∷ []) (λ i j d less below. elim (cases_lt j (length xs)) [
      | inl within ↦
          rw (get_or_append_left xs (x ∷ []) d i (omega (arith, less, within)), get_or_append_left xs (x ∷ []) d j within)
          (apart_from_distinct eqb xs i j d distinct less within)
      | inr past ↦
          let last : j ≡ length xs = omega (arith, past, below, length_push xs x) in
          let early : i < length xs = omega (arith, less, last) in
          let here : slice_index_or (xs ++ x ∷ []) j d ≡ x = ap (λ k. slice_index_or (xs ++ x ∷ []) k d) last ∙ get_or_push xs x d (length xs) refl in
          let there : slice_index_or (xs ++ x ∷ []) i d ≡ slice_index_or xs i d = get_or_append_left xs (x ∷ []) d i early in
          let differ : slice_index_or xs i d ≡ x → ⊥ = λ same. fresh (i, early, get_or_default xs i x d early ∙ same) in
          rw (here, there) (ne_eqb (slice_index_or xs i d) x differ)
    ])

pub distinct_none : {A : Type 0} (e : A → A → Bool) → IsDistinct e []
distinct_none e = IsDistinct-from_apart e [] (λ i j d less below. absurd (omega (arith, below)))

pub has_same : (clocks : List Clock) (i j t : ℕ) → AreSame clocks i j → HasDate clocks j t → HasDate clocks i t
has_same clocks i j t same (c, found, date) = (c, same ∙ found, date)

-- two first places of equal clocks are one
pub first_same : (clocks : List Clock) (h g : ℕ) → IsFirst clocks h → IsFirst clocks g → AreSame clocks h g → h ≡ g
first_same clocks h g h_first g_first same = elim (cases_order h g) [
  | inl is ↦ is
  | inr other ↦ elim other [ inl less ↦ absurd (g_first.1 h less same) | inr more ↦ absurd (h_first.1 g more (sym same)) ]
]
