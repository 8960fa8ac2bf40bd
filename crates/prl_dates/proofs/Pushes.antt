-- Lists with one item more, and with one written.
use Rattle.prl_base.proofs.Standard.{◌≡◌, ◌≢◌, ◌+◌, ◌<◌, ◌++◌, ◌⊎◌, ℕ, List, [], ◌∷◌, length, Some, inl, inr, refl, sym, ◌∙◌, ap, arith, slice_get, slice_index, cases_lt, get_or, get_or-set_same}
use Rattle.prl_base.proofs.Standard.{get_or_push, length_push, slice_get_within, slice_get-get_or, get_or_from_slice_get}
use Rattle.std.proofs.Common.{get_or-set_other}
use Rattle.std.proofs.Math.ListN.{set}
use Rattle.prl_dates.specs.Vocabulary.{IsListed}
use Rattle.prl_dates.proofs.FirstTables.{get_first}

-- an index that is written, or another
pub set_index : (table : List ℕ) (at q value : ℕ) → at < length table → ((q ≡ at) × (slice_index (set table at value) q ≡ value)) ⊎ ((q ≢ at) × (slice_index (set table at value) q ≡ slice_index table q))
set_index table at q value inside =
    elim (cases_lt q at) [
      | inl less ↦ (let ne : q ≢ at = omega (arith, less) in inr (ne, get_or-set_other table at q value 0 ne))
      | inr above ↦
          elim (cases_lt at q) [
            | inl more ↦ (let ne : q ≢ at = omega (arith, more) in inr (ne, get_or-set_other table at q value 0 ne))
            | inr under ↦ (let e : q ≡ at = omega (arith, above, under) in inl (e, ap (λ (x : ℕ). get_or (set table at value) x 0) e ∙ get_or-set_same table at value 0 inside))
          ]
    ]

-- items of a list with one more
pub push_get : {A : Type 0} (xs : List A) (x y : A) (k : ℕ) → slice_get (xs ++ x ∷ []) k ≡ Some y → (slice_get xs k ≡ Some y) ⊎ ((k ≡ length xs) × (x ≡ y))
push_get {A} xs x y k at =
    let below : k < length xs + 1 = (let b = slice_get_within (xs ++ x ∷ []) k y at in omega (arith, b, length_push xs x)) in
    elim (cases_lt k (length xs)) [
      | inl less ↦ inl (slice_get-get_or xs k y less ∙ ap (λ (z : A). Some z) (sym (get_first xs (x ∷ []) k y less) ∙ get_or_from_slice_get (xs ++ x ∷ []) k y y at))
      | inr above ↦
          (let e : k ≡ length xs = omega (arith, above, below) in
          inr (e, sym (get_or_push xs x y k (sym e)) ∙ get_or_from_slice_get (xs ++ x ∷ []) k y y at))
    ]

pub push_old : {A : Type 0} (xs : List A) (x y : A) (k : ℕ) → slice_get xs k ≡ Some y → slice_get (xs ++ x ∷ []) k ≡ Some y
push_old {A} xs x y k at =
    let below : k < length xs = slice_get_within xs k y at in
    let more : k < length (xs ++ x ∷ []) = omega (arith, below, length_push xs x) in
    slice_get-get_or (xs ++ x ∷ []) k y more ∙ ap (λ (z : A). Some z) (get_first xs (x ∷ []) k y below ∙ get_or_from_slice_get xs k y y at)

pub push_new : {A : Type 0} (xs : List A) (x : A) → slice_get (xs ++ x ∷ []) (length xs) ≡ Some x
push_new {A} xs x =
    let more : length xs < length (xs ++ x ∷ []) = omega (arith, length_push xs x) in
    slice_get-get_or (xs ++ x ∷ []) (length xs) x more ∙ ap (λ (z : A). Some z) (get_or_push xs x x (length xs) refl)

pub listed_more : (list : List ℕ) (x q : ℕ) → IsListed list q → IsListed (list ++ x ∷ []) q
listed_more list x q at = (at.0, push_old list x q at.0 at.1)
