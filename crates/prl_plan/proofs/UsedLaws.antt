-- Used instances in order, and the cells of edges side by side.
use Rattle.prl_base.proofs.Standard.{◌≡◌, ◌+◌, ◌*◌, ◌/◌, ◌%◌, ◌<◌, ◌≤◌, ℕ, zero, suc, Bool, true, false, List, [], ◌∷◌, length, get_or, take, sum, Option, Some, None, inl, inr, refl, sym, ◌∙◌, ap}
use Rattle.prl_base.proofs.Standard.{subst, arith, eqb, cond, cases_lt, sum_by-cons, nat_tests}
use Rattle.prl_plan.specs.Vocabulary.{Edge, Used, used_at, EnumeratesUsed, place_up_to, place_of}

pub test_same : (x y : ℕ) → x ≡ y → eqb x y ≡ true
test_same x y h = grind (arith, nat_tests)

pub test_differs : (x y : ℕ) → (x ≡ y → ⊥) → eqb x y ≡ false
test_differs x y h = grind (arith, nat_tests)

pub test_equal : (x y : ℕ) → eqb x y ≡ true → x ≡ y
test_equal x y h = grind (arith, nat_tests)

-- the elements up to a place, and then that element, are no more than those up to a later place
pub sum_up_to : (xs : List ℕ) (e f : ℕ) → e < f → e < length xs → sum (take e xs) + get_or xs e 0 ≤ sum (take f xs)
sum_up_to [] e f before inside = absurd (omega arith)
sum_up_to (x ∷ xs) zero zero before inside = absurd (omega arith)
sum_up_to (x ∷ xs) (suc e) zero before inside = absurd (omega arith)
sum_up_to (x ∷ xs) zero (suc f) before inside =
    let g : get_or (x ∷ xs) 0 0 ≡ x = refl in
    omega (arith, sum_by-cons (λ y. y) x (take f xs), g)
sum_up_to (x ∷ xs) (suc e) (suc f) before inside =
    let g : get_or (x ∷ xs) (suc e) 0 ≡ get_or xs e 0 = refl in
    omega (arith, sum_up_to xs e f (omega arith) (omega arith), sum_by-cons (λ y. y) x (take e xs), sum_by-cons (λ y. y) x (take f xs), g)

pub sum_all : (xs : List ℕ) (e : ℕ) → e < length xs → sum (take e xs) + get_or xs e 0 ≤ sum xs
sum_all [] e inside = absurd (omega arith)
sum_all (x ∷ xs) zero inside =
    let g : get_or (x ∷ xs) 0 0 ≡ x = refl in
    omega (arith, sum_by-cons (λ y. y) x xs, g)
sum_all (x ∷ xs) (suc e) inside =
    let g : get_or (x ∷ xs) (suc e) 0 ≡ get_or xs e 0 = refl in
    omega (arith, sum_all xs e (omega arith), sum_by-cons (λ y. y) x (take e xs), sum_by-cons (λ y. y) x xs, g)

sum_none : (n : ℕ) → sum (take n []) ≡ 0
sum_none zero = refl
sum_none (suc n) = refl

-- without differences there is one instance at most
flat : (first k : ℕ) (gaps : List ℕ) → length gaps ≡ 0 → first + k / length gaps * sum gaps + sum (take (k % length gaps) gaps) ≡ first
flat first k [] none = omega (arith, sum_none (k % 0))
flat first k (x ∷ gaps) none = absurd (omega arith)

module _ (edge : Edge) (used : Used) (all : EnumeratesUsed edge used) where
  next : (k : ℕ) → used_at used k < used_at used (suc k)
  next k = subst (λ (x : ℕ). used_at used k < used_at used x) (let e : k + 1 ≡ suc k = omega arith in e) (all.rising k)

  pub rising_to : (j k : ℕ) → k < j → used_at used k < used_at used j
  rising_to zero k before = absurd (omega arith)
  rising_to (suc j) k before =
      elim (cases_lt k j) [
        | inl below ↦ omega (arith, rising_to j k below, next j)
        | inr above ↦ subst (λ (x : ℕ). used_at used x < used_at used (suc j)) (let e : j ≡ k = omega arith in e) (next j)
      ]

  pub at_least : (k : ℕ) → k ≤ used_at used k
  at_least zero = omega arith
  at_least (suc k) = omega (arith, at_least k, next k)

  pub some_gaps : length used.gaps ≡ 0 → ⊥
  some_gaps none = omega (arith, flat used.first 0 used.gaps none, flat used.first 1 used.gaps none, rising_to 1 0 (omega arith))

  found : (m n k : ℕ) → used_at used k ≡ m → k < n → place_up_to used m n ≡ Some k
  found m zero k at before = absurd (omega arith)
  found m (suc j) k at before =
      elim (cases_lt k j) [
        | inl below ↦
            (let other : eqb (used_at used j) m ≡ false = test_differs (used_at used j) m (λ e. omega (arith, rising_to j k below, at, e)) in
            ap (λ (b : Bool). cond b (Some j) (place_up_to used m j)) other ∙ found m j k at below)
        | inr above ↦
            (let e : j ≡ k = omega arith in
            ap (λ (b : Bool). cond b (Some j) (place_up_to used m j)) (test_same (used_at used j) m (ap (λ (x : ℕ). used_at used x) e ∙ at)) ∙ ap (λ (x : ℕ). Some x) e)
      ]

  -- each used instance has its place
  pub place_found : (m k : ℕ) → used_at used k ≡ m → place_of used m ≡ Some k
  place_found m k at =
      ap (λ (b : Bool). cond b None (place_up_to used m (m + 1))) (test_differs (length used.gaps) 0 some_gaps) ∙ found m (m + 1) k at (omega (arith, at_least k, at))

-- what has a place stands there
same_place : (used : Used) (m n k : ℕ) → place_up_to used m n ≡ Some k → used_at used k ≡ m
same_place used m zero k h = cc
same_place used m (suc j) k h = go (eqb (used_at used j) m) refl (λ g. same_place used m j k g)
  where
    go : (b : Bool) → eqb (used_at used j) m ≡ b → (place_up_to used m j ≡ Some k → used_at used k ≡ m) → used_at used k ≡ m
    go true test before =
        let same : j ≡ k = cc in
        subst (λ (x : ℕ). used_at used x ≡ m) same (test_equal (used_at used j) m test)
    go false test before = before (sym (ap (λ (b : Bool). cond b (Some j) (place_up_to used m j)) test) ∙ h)

pub place_stands : (used : Used) (m k : ℕ) → place_of used m ≡ Some k → used_at used k ≡ m
place_stands used m k h = go (eqb (length used.gaps) 0) refl
  where
    go : (b : Bool) → eqb (length used.gaps) 0 ≡ b → used_at used k ≡ m
    go true test = absurd (let e : ◌≡◌ {A = Option ℕ} None (Some k) = sym (ap (λ (b : Bool). cond b None (place_up_to used m (m + 1))) test) ∙ h in cc)
    go false test = same_place used m (m + 1) k (sym (ap (λ (b : Bool). cond b None (place_up_to used m (m + 1))) test) ∙ h)
