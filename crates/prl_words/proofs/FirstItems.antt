-- The first items of a list, and edges of small numbers.
use Rattle.prl_base.proofs.Standard.{◌≡◌, ◌+◌, ◌<◌, ◌≤◌, ℕ, List, Some, length, get_or, slice_get, ap, sym, ◌∙◌, subst, arith, inl, inr, cases_lt, same_Some, slice_get-get_or, slice_get_within}
use Rattle.prl_base.specs.declared.operators.Op.{Op}
use Rattle.prl_plan.specs.Representable.{HasSmallOutput, HasSmallShift}
use Rattle.prl_plan.specs.declared.graphs.Edge.{Edge}

-- each of the first n items is so
abbrev pub FirstAre : {A : Type 0} → (A → Type 0) → List A → ℕ → Type 0
FirstAre P items n = (k : ℕ) → k < n → (item : _) → slice_get items k ≡ Some item → P item

-- an output of 32 bits, and reduced shifts
abbrev pub IsSmallEdge : Edge → Type 0
IsSmallEdge edge = HasSmallOutput edge.from × ((k : ℕ) (op : Op) → slice_get edge.ops k ≡ Some op → HasSmallShift op)

-- one more item is so
pub first_more : {A : Type 0} (P : A → Type 0) (items : List A) (n : ℕ) (x : A) → n < length items → x ≡ get_or items n x → FirstAre P items n → P x → FirstAre P items (n + 1)
first_more P items n x within is before now k below item at = elim (cases_lt k n) [
  | inl h ↦ before k h item at
  | inr h ↦
      (let e : k ≡ n = omega (arith, h, below) in
      subst P (same_Some x item (ap (λ y. Some y) is ∙ sym (slice_get-get_or items n x within) ∙ ap (λ (i : ℕ). slice_get items i) (sym e) ∙ at)) now)
]

-- all items are so
pub all_first : {A : Type 0} (P : A → Type 0) (items : List A) (n : ℕ) → length items ≤ n → FirstAre P items n → (k : ℕ) (item : A) → slice_get items k ≡ Some item → P item
all_first P items n long before k item at = before k (let within = slice_get_within items k item at in omega (arith, within, long)) item at
