-- Two lists as one keep how often a name stands in them.
use Rattle.prl_base.proofs.Standard.{◌≡◌, ◌≤◌, ◌+◌, ℕ, zero, suc, Bool, true, false, cond, List, [], ◌∷◌, ◌++◌, refl, sym, ap, subst, Some, None, arith, bytes_decides, bytes_eq}
use Rattle.std.specs.Bool.{nat_lt}
use Rattle.std.specs.List.{slice_get}
use Rattle.prl_ast.specs.declared.declarations.Placed.{Placed}
use Rattle.prl_names.specs.Vocabulary.{AreApart, placed_names, is_among, repeat_after, repeat_in, front_before, rest_from, merged}
use Rattle.prl_names.proofs.Apart.{no_repeat, among_more, among_last}

-- how often the name stands in the list
count_of : List ℕ → List Placed → ℕ
count_of n [] = 0
count_of n (x ∷ xs) = cond (bytes_eq x.name n) 1 0 + count_of n xs

count_append : (n : List ℕ) (xs ys : List Placed) → count_of n (xs ++ ys) ≡ count_of n xs + count_of n ys
unfolding count_of
count_append n [] ys = omega arith
count_append n (x ∷ xs) ys = (let others = count_append n xs ys in omega arith)

count_parts : (n : List ℕ) (at : ℕ) (xs : List Placed) → count_of n (front_before at xs) + count_of n (rest_from at xs) ≡ count_of n xs
unfolding count_of
count_parts n at [] = refl
count_parts n at (x ∷ xs) =
    let others = count_parts n at xs in
    elim (nat_lt x.at.at at) as (λ b. count_of n (cond b (x ∷ front_before at xs) []) + count_of n (cond b (rest_from at xs) (x ∷ xs)) ≡ cond (bytes_eq x.name n) 1 0 + count_of n xs) [
      | true ↦ omega arith
      | false ↦ omega arith
    ]

count_merged : (n : List ℕ) (xs ys : List Placed) → count_of n (merged xs ys) ≡ count_of n xs + count_of n ys
unfolding count_of
count_merged n [] ys = omega arith
count_merged n (x ∷ xs) ys =
    let parts = count_parts n x.at.at ys in
    let others = count_merged n xs (rest_from x.at.at ys) in
    let whole = count_append n (front_before x.at.at ys) (x ∷ merged xs (rest_from x.at.at ys)) in
    omega arith

-- how often it stands among the names
one_if : Bool → ℕ
one_if true = 1
one_if false = 0

count_after : (n : List ℕ) (earlier : List (List ℕ)) (xs : List Placed) → repeat_after earlier xs ≡ None → count_of n xs + one_if (is_among earlier n) ≤ 1
unfolding count_of one_if
count_after n earlier [] h = elim (is_among earlier n) as (λ b. 0 + one_if b ≤ 1) [ true ↦ omega arith | false ↦ omega arith ]
count_after n earlier (x ∷ xs) h =
    let parts = no_repeat earlier x xs h in
    let others = count_after n (earlier ++ x.name ∷ []) xs parts.1 in
    elim (bytes_eq x.name n) as (λ b. bytes_eq x.name n ≡ b → (cond b 1 0 + count_of n xs) + one_if (is_among earlier n) ≤ 1) [
      | true ↦ λ e.
          (let same : x.name ≡ n = (bytes_decides x.name n).0 e in
          let absent : is_among earlier n ≡ false = subst (λ m. is_among earlier m ≡ false) same parts.0 in
          let there : is_among (earlier ++ x.name ∷ []) n ≡ true = subst (λ m. is_among (earlier ++ m ∷ []) n ≡ true) (sym same) (among_last earlier n) in
          let others' = rw there at others in
          rw absent (omega arith))
      | false ↦ λ e.
          elim (is_among (earlier ++ x.name ∷ []) n) as (λ b. is_among (earlier ++ x.name ∷ []) n ≡ b → count_of n xs + one_if b ≤ 1 → (0 + count_of n xs) + one_if (is_among earlier n) ≤ 1) [
            | true ↦ λ a g. elim (is_among earlier n) as (λ b. (0 + count_of n xs) + one_if b ≤ 1) [ true ↦ omega arith | false ↦ omega arith ]
            | false ↦ λ a g. rw (among_more earlier x.name n a) (omega arith)
          ] refl others
    ] refl

count_once : (n : List ℕ) (xs : List Placed) → repeat_in xs ≡ None → count_of n xs ≤ 1
count_once n xs h = (let all = count_after n [] xs h in omega arith)

stands : (n : List ℕ) (xs : List Placed) (i : ℕ) → slice_get (placed_names xs) i ≡ Some n → 1 ≤ count_of n xs
unfolding count_of
stands n [] i h = cc
stands n (x ∷ xs) zero h =
    let same : x.name ≡ n = cc in
    let test : bytes_eq x.name n ≡ true = (bytes_decides x.name n).1 same in
    rw test (omega arith)
stands n (x ∷ xs) (suc i) h = (let others = stands n xs i h in omega arith)

two : (n : List ℕ) (x : Placed) (xs : List Placed) (j : ℕ) → cond (bytes_eq x.name n) 1 0 + count_of n xs ≤ 1 → Some x.name ≡ Some n → slice_get (placed_names xs) j ≡ Some n → ⊥
two n x xs j h g k =
    let same : x.name ≡ n = cc in
    let test : bytes_eq x.name n ≡ true = (bytes_decides x.name n).1 same in
    let other = stands n xs j k in
    let all = rw test at h in
    omega arith

apart_by_count : (n : List ℕ) (xs : List Placed) (i j : ℕ) → count_of n xs ≤ 1 → slice_get (placed_names xs) i ≡ Some n → slice_get (placed_names xs) j ≡ Some n → i ≡ j
unfolding count_of
apart_by_count n [] i j h g k = cc
apart_by_count n (x ∷ xs) zero zero h g k = refl
apart_by_count n (x ∷ xs) zero (suc j) h g k = absurd (two n x xs j h g k)
apart_by_count n (x ∷ xs) (suc i) zero h g k = absurd (two n x xs i h k g)
apart_by_count n (x ∷ xs) (suc i) (suc j) h g k = ap suc (apart_by_count n xs i j (omega arith) g k)

-- The names of two lists that are apart as one list: each list's are apart, and no name stands in both.
pub record AreApartIn (xs ys : List Placed) : Type 0 where
  pub first : AreApart (placed_names xs)
  pub second : AreApart (placed_names ys)
  pub both : (i j : ℕ) (n : List ℕ) → slice_get (placed_names xs) i ≡ Some n → slice_get (placed_names ys) j ≡ Some n → ⊥

pub apart_merged : (xs ys : List Placed) → repeat_in (merged xs ys) ≡ None → AreApartIn xs ys
apart_merged xs ys h = record {
  first = λ i j n g k. (let all = count_once n (merged xs ys) h in let parts = count_merged n xs ys in apart_by_count n xs i j (omega arith) g k);
  second = λ i j n g k. (let all = count_once n (merged xs ys) h in let parts = count_merged n xs ys in apart_by_count n ys i j (omega arith) g k);
  both = λ i j n g k.
      (let all = count_once n (merged xs ys) h in let parts = count_merged n xs ys in let here = stands n xs i g in let there = stands n ys j k in omega arith);
}
