-- Lists with one more element, and marks with one more set.
use Rattle.prl_base.proofs.Standard.{◌≡◌, ◌<◌, ◌≢◌, ◌+◌, ◌⊎◌, ℕ, zero, suc, zero-add, Bool, true, false, cond, List, [], ◌∷◌, ◌++◌, length, set, get_or, slice_get, Some, refl, sym, ◌∙◌, ap, subst}
use Rattle.prl_base.proofs.Standard.{arith, inl, inr, ⊎_elim, get_or-set_same, cases_lt, false≢true, slice_get_within, sum_by-set, sum_by-cons}
use Rattle.std.proofs.Common.{get_or-set_other}
use Rattle.prl_flow.proofs.Lists.{slice_get_append_left}
use Rattle.prl_causal.specs.code.Parts.{IsMarked, marked_count}

pub push_cases : {A : Type 0} (xs : List A) (y : A) (k : ℕ) (x : A) → slice_get (xs ++ y ∷ []) k ≡ Some x → (slice_get xs k ≡ Some x) ⊎ ((k ≡ length xs) × (y ≡ x))
push_cases [] y zero x h = inr (refl, cc)
push_cases [] y (suc k) x h = cc
push_cases (z ∷ xs) y zero x h = inl h
push_cases (z ∷ xs) y (suc k) x h = ⊎_elim (λ a. inl a) (λ b. inr (ap (λ n. suc n) b.0, b.1)) (push_cases xs y k x h)

pub push_keeps : {A : Type 0} (xs : List A) (y : A) (k : ℕ) (x : A) → slice_get xs k ≡ Some x → slice_get (xs ++ y ∷ []) k ≡ Some x
push_keeps xs y k x h = slice_get_append_left xs (y ∷ []) k (slice_get_within xs k x h) ∙ h

pub marked_within : (marks : List Bool) (i : ℕ) → IsMarked marks i → i < length marks
marked_within [] i h = absurd (false≢true h)
marked_within (b ∷ marks) zero h = omega arith
marked_within (b ∷ marks) (suc i) h = (let below = marked_within marks i h in omega arith)

pub equal_or_not : (i j : ℕ) → (i ≡ j) ⊎ (i ≢ j)
equal_or_not i j = ⊎_elim (λ a. inr (λ e. omega arith)) (λ b. ⊎_elim (λ c. inr (λ e. omega arith)) (λ d. inl (omega arith)) (cases_lt j i)) (cases_lt i j)

pub mark_set : (marks : List Bool) (i : ℕ) → i < length marks → IsMarked (set marks i true) i
mark_set marks i below = get_or-set_same marks i true false below

pub mark_kept : (marks : List Bool) (i j : ℕ) → i < length marks → IsMarked marks j → IsMarked (set marks i true) j
mark_kept marks i j below h =
    ⊎_elim (λ same. subst (λ x. IsMarked (set marks i true) x) (sym same) (mark_set marks i below)) (λ other. get_or-set_other marks i j true false other ∙ h) (equal_or_not j i)

pub mark_cases : (marks : List Bool) (i j : ℕ) → IsMarked (set marks i true) j → (j ≡ i) ⊎ IsMarked marks j
mark_cases marks i j h = ⊎_elim (λ same. inl same) (λ other. inr (sym (get_or-set_other marks i j true false other) ∙ h)) (equal_or_not j i)

pub counted_true : (marks : List Bool) → marked_count (true ∷ marks) ≡ 1 + marked_count marks
counted_true marks = sum_by-cons (λ b. cond b 1 0) true marks

pub counted_false : (marks : List Bool) → marked_count (false ∷ marks) ≡ marked_count marks
counted_false marks = sum_by-cons (λ b. cond b 1 0) false marks ∙ zero-add (marked_count marks)

pub mark_counted : (marks : List Bool) (i : ℕ) → i < length marks → get_or marks i false ≡ false → marked_count (set marks i true) ≡ marked_count marks + 1
mark_counted marks i below clear =
    let sums = sum_by-set (λ b. cond b 1 0) marks i true false below in
    let one : ℕ = 1 in
    let before : cond (get_or marks i false) one 0 ≡ 0 = rw clear refl in
    omega (arith, sums, before)

count_most : (marks : List Bool) → marked_count marks < length marks + 1
count_most [] = omega arith
count_most (true ∷ marks) = (let rest = count_most marks in let sum = counted_true marks in omega arith)
count_most (false ∷ marks) = (let rest = count_most marks in let sum = counted_false marks in omega arith)

pub count_below : (marks : List Bool) (i : ℕ) → i < length marks → get_or marks i false ≡ false → marked_count marks < length marks
count_below [] i below clear = absurd (omega arith)
count_below (true ∷ marks) zero below clear = absurd (false≢true (sym clear))
count_below (false ∷ marks) zero below clear = (let most = count_most marks in let sum = counted_false marks in omega arith)
count_below (true ∷ marks) (suc i) below clear = (let rest = count_below marks i (omega arith) clear in let sum = counted_true marks in omega arith)
count_below (false ∷ marks) (suc i) below clear = (let rest = count_below marks i (omega arith) clear in let sum = counted_false marks in omega arith)
