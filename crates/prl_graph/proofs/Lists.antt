-- Lists with one more element, and marks.
use Rattle.prl_base.proofs.Standard.{◌≡◌, ◌<◌, ◌+◌, ◌⊎◌, ℕ, zero, suc, zero-add, Bool, true, false, cond, List, [], ◌∷◌, ◌++◌, length, set, get_or, replicate, slice_get, Some, refl, sym, ◌∙◌, ap}
use Rattle.prl_base.proofs.Standard.{subst, arith, inl, inr, ⊎_elim, get_or-set_same, count_by, cases_eq, slice_get-get_or, sum_by-set, sum_by-cons}
use Rattle.std.proofs.Common.{get_or-set_other}
use Rattle.prl_graph.specs.code.Marks.{IsMarked}

-- how many marks are set
abbrev pub marked_count : List Bool → ℕ
marked_count = count_by (λ b. b)

pub push_cases : {A : Type 0} (xs : List A) (y : A) (k : ℕ) (x : A) → slice_get (xs ++ y ∷ []) k ≡ Some x → (slice_get xs k ≡ Some x) ⊎ ((k ≡ length xs) × (y ≡ x))
push_cases [] y zero x h = inr (refl, cc)
push_cases [] y (suc k) x h = cc
push_cases (z ∷ xs) y zero x h = inl h
push_cases (z ∷ xs) y (suc k) x h = ⊎_elim (λ a. inl a) (λ b. inr (ap (λ n. suc n) b.0, b.1)) (push_cases xs y k x h)

-- an element of two lists is one of the first or of the second
pub append_cases : {A : Type 0} (xs ys : List A) (k : ℕ) (x : A) → slice_get (xs ++ ys) k ≡ Some x
    → (slice_get xs k ≡ Some x) ⊎ ((m : ℕ) × (k ≡ length xs + m) × (slice_get ys m ≡ Some x))
append_cases [] ys k x h = inr (k, omega arith, h)
append_cases (z ∷ xs) ys zero x h = inl h
append_cases (z ∷ xs) ys (suc k) x h = ⊎_elim (λ a. inl a) (λ b. inr (b.0, omega (arith, b.1), b.2)) (append_cases xs ys k x h)

-- an element of the second of two lists
pub append_right : {A : Type 0} (xs ys : List A) (k : ℕ) → slice_get (xs ++ ys) (length xs + k) ≡ slice_get ys k
append_right [] ys k = let e : 0 + k ≡ k = omega arith in ap (slice_get ys) e
append_right (x ∷ xs) ys k =
    let e : suc (length xs) + k ≡ suc (length xs + k) = omega arith in
    ap (slice_get (x ∷ (xs ++ ys))) e ∙ append_right xs ys k

pub mark_kept : (marks : List Bool) (i j : ℕ) → i < length marks → IsMarked marks j → IsMarked (set marks i true) j
mark_kept marks i j below h =
    ⊎_elim (λ same. subst (λ x. IsMarked (set marks i true) x) (sym same) (get_or-set_same marks i true false below)) (λ other. get_or-set_other marks i j true false other ∙ h) (cases_eq j i)

pub mark_cases : (marks : List Bool) (i j : ℕ) → IsMarked (set marks i true) j → (j ≡ i) ⊎ IsMarked marks j
mark_cases marks i j h = ⊎_elim (λ same. inl same) (λ other. inr (sym (get_or-set_other marks i j true false other) ∙ h)) (cases_eq j i)

counted_true : (marks : List Bool) → marked_count (true ∷ marks) ≡ 1 + marked_count marks
counted_true marks = sum_by-cons (λ b. cond b 1 0) true marks

counted_false : (marks : List Bool) → marked_count (false ∷ marks) ≡ marked_count marks
counted_false marks = sum_by-cons (λ b. cond b 1 0) false marks ∙ zero-add (marked_count marks)

pub mark_counted : (marks : List Bool) (i : ℕ) → i < length marks → get_or marks i false ≡ false → marked_count (set marks i true) ≡ marked_count marks + 1
mark_counted marks i below clear =
    let before : ◌≡◌ {A = ℕ} (cond (get_or marks i false) 1 0) 0 = rw clear refl in
    omega (arith, sum_by-set (λ b. cond b 1 0) marks i true false below, before)

pub count_most : (marks : List Bool) → marked_count marks < length marks + 1
count_most [] = omega arith
count_most (true ∷ marks) = (let rest = count_most marks in let sum = counted_true marks in omega arith)
count_most (false ∷ marks) = (let rest = count_most marks in let sum = counted_false marks in omega arith)

-- no mark is set
pub clear_count : (n : ℕ) → marked_count (replicate n false) ≡ 0
clear_count zero = refl
clear_count (suc n) = counted_false (replicate n false) ∙ clear_count n

pub clear_at : (n i : ℕ) → get_or (replicate n false) i false ≡ false
clear_at zero i = refl
clear_at (suc n) zero = refl
clear_at (suc n) (suc i) = clear_at n i

pub clear_length : (n : ℕ) → length (replicate n false) ≡ n
clear_length zero = refl
clear_length (suc n) = ap suc (clear_length n)

-- an element by its number, where the list is written otherwise
pub element_of : {A : Type 0} (xs ys : List A) (k : ℕ) (d : A) → xs ≡ ys → k < length xs → slice_get ys k ≡ Some (get_or xs k d)
element_of xs ys k d same below = ap (λ l. slice_get l k) (sym same) ∙ slice_get-get_or xs k d below

pub same_length : {A : Type 0} (xs ys : List A) → xs ≡ ys → length xs ≡ length ys
same_length xs ys same = ap length same

-- an element that was read, where the list is written otherwise
pub item_of : {A : Type 0} (xs ys : List A) (k : ℕ) (x : A) → xs ≡ ys → k < length ys → x ≡ get_or xs k x → slice_get ys k ≡ Some x
item_of xs ys k x same below read =
    let there : k < length xs = (let e : length xs ≡ length ys = ap length same in omega arith) in
    ap (λ l. slice_get l k) (sym same) ∙ slice_get-get_or xs k x there ∙ ap Some (sym read)
