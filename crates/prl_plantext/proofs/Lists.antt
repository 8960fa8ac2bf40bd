-- Items of lists that pass a test.
use Rattle.prl_base.proofs.Standard.{◌≡◌, ◌<◌, ◌^◌, ◌+◌, ◌∙◌, ℕ, zero, suc, Bool, true, List, [], ◌∷◌, Some, length, drop, get_or, slice_get, refl, sym, subst, add-one, drop-cons, list_all, and_parts}
use Rattle.prl_base.proofs.Standard.{ltb-true}
use Rattle.prl_plan.specs.declared.graphs.Task.{Task}
use Rattle.prl_plantext.specs.code.Checks.{is_task}

same_item : {A : Type 0} (x y : A) → Some x ≡ Some y → x ≡ y
same_item x y e = cc

pub passes_at : {A : Type 0} (test : A → Bool) (items : List A) → list_all test items ≡ true → (k : ℕ) (item : A) → slice_get items k ≡ Some item → test item ≡ true
passes_at test [] all k item at = cc
passes_at test (first ∷ items) all zero item at =
    subst (λ x. test x ≡ true) (same_item first item at) (and_parts (test first) (list_all test items) all).0
passes_at test (first ∷ items) all (suc k) item at = passes_at test items (and_parts (test first) (list_all test items) all).1 k item at

pub start_is_small : (hyper : ℕ) (task : Task) → is_task hyper task ≡ true → task.clock.start < 2 ^ 31
start_is_small hyper task is =
    let divides = and_parts _ _ is in
    let due = and_parts _ _ divides.0 in
    let some_due = and_parts _ _ due.0 in
    let wcet = and_parts _ _ some_due.0 in
    let start = and_parts _ _ wcet.0 in
    ltb-true task.clock.start (2 ^ 31) start.1

-- one more element that passes the test
pub all_next : {A : Type 0} (test : A → Bool) (xs : List A) (k : ℕ) (x : A) (whole : Bool) → k < length xs → x ≡ get_or xs k x → test x ≡ true →
    list_all test (drop k xs) ≡ whole → list_all test (drop (k + 1) xs) ≡ whole
all_next {A = A} test xs k x whole below item holds before =
    let next : drop k xs ≡ x ∷ drop (k + 1) xs = rw (add-one, drop-cons xs k x below, ← item) refl in
    let same : list_all test (drop k xs) ≡ list_all test (drop (k + 1) xs) = rw (next, holds) refl in
    sym same ∙ before
