-- Tables of a plan's dates as they are made and raised.
use Rattle.prl_base.proofs.Standard.{rules, ◌≡◌, ◌+◌, ◌*◌, ◌<◌, ◌≤◌, ◌++◌, ℕ, zero, suc, Bool, true, false, List, [], ◌∷◌, length, Some, inl, inr, refl, sym, ◌∙◌, ap, subst, arith, cond, sum, filter}
use Rattle.prl_base.proofs.Standard.{slice_get, slice_index, cases_lt, sum_by-cons}
use Rattle.prl_plan.specs.Plans.{PlanView}
use Rattle.prl_dates.specs.Vocabulary.{Bound, jobs_of, jobs_before, bound_of, IsTablePart, AreWithin}
use Rattle.prl_dates.proofs.FirstTables.{get_first, get_second, length_both}
use Rattle.prl_dates.proofs.Indices.{before_rises}
use Rattle.prl_dates.proofs.Readings.{before_next}

-- one job more
pub part_more : (plan : PlanView) (bound : Bound) (count some : ℕ) (table : List ℕ) (value : ℕ) → IsTablePart plan bound count some table → value ≡ bound_of plan bound count some →
    some < jobs_of plan.graph count → IsTablePart plan bound count (some + 1) (table ++ value ∷ [])
part_more plan bound count some table value part is inside = record {
  long = length_both table (value ∷ []) ∙ (omega (arith, part.long));
  each = λ i n below job.
      get_first table (value ∷ []) (jobs_before plan.graph i + n) 0 (omega (arith, part.long, before_rises plan.graph i count below, job)) ∙ part.each i n below job;
  next = λ n below.
      elim (cases_lt n some) [
        | inl less ↦ get_first table (value ∷ []) (jobs_before plan.graph count + n) 0 (omega (arith, part.long, less)) ∙ part.next n less
        | inr above ↦
            (let e : n ≡ some = omega (arith, above, below) in
            let at : jobs_before plan.graph count + n ≡ length table + 0 = omega (arith, part.long, e) in
            ap (λ (q : ℕ). slice_index (table ++ value ∷ []) q) at ∙ get_second table (value ∷ []) 0 0 ∙ is ∙ ap (λ (k : ℕ). bound_of plan bound count k) (sym e))
      ];
}

-- all jobs of a task
pub part_whole : (plan : PlanView) (bound : Bound) (count some : ℕ) (table : List ℕ) → IsTablePart plan bound count some table → some ≡ jobs_of plan.graph count →
    IsTablePart plan bound (count + 1) 0 table
part_whole plan bound count some table part all = record {
  long = omega (arith, part.long, before_next plan.graph count, all);
  each = λ i n below job.
      elim (cases_lt i count) [
        | inl less ↦ part.each i n less job
        | inr above ↦
            (let e : count ≡ i = omega (arith, above, below) in
            subst (λ (x : ℕ). (n : ℕ) → n < jobs_of plan.graph x → slice_index table (jobs_before plan.graph x + n) ≡ bound_of plan bound x n) e
            (λ n job. part.next n (omega (arith, job, all))) n job)
      ];
  next = λ n below. absurd (omega (arith, below));
}

pub part_none : (plan : PlanView) (bound : Bound) → IsTablePart plan bound 0 0 []
part_none plan bound = record { long = refl; each = λ i n below. absurd (omega (arith, below)); next = λ n below. absurd (omega (arith, below)) }

-- items that pass a test are items of the list, and the other way round
pub record IsItem {A : Type 0} (test : A → Bool) (xs : List A) (x : A) : Type 0 where
  pub passes : test x ≡ true
  pub at : ℕ
  pub stands : slice_get xs at ≡ Some x

pub kept_item : {A : Type 0} (test : A → Bool) (xs : List A) (l : ℕ) (x : A) → slice_get (filter test xs) l ≡ Some x → IsItem test xs x
kept_item {A} test [] l x is = absurd (search rules)
kept_item {A} test (y ∷ ys) l x is = go (test y) refl (λ k there. kept_item test ys k x there) l is
  where
    later : IsItem test ys x → IsItem test (y ∷ ys) x
    later item = record { passes = item.passes; at = suc item.at; stands = item.stands }

    go : (b : Bool) → test y ≡ b → ((k : ℕ) → slice_get (filter test ys) k ≡ Some x → IsItem test ys x) → (l : ℕ) →
        slice_get (cond b (y ∷ filter test ys) (filter test ys)) l ≡ Some x → IsItem test (y ∷ ys) x
    go false not_it rest l is = later (rest l is)
    go true it rest zero is = record { passes = (let e : y ≡ x = cc in subst (λ (z : A). test z ≡ true) e it); at = zero; stands = is }
    go true it rest (suc l) is = later (rest l is)

pub item_kept : {A : Type 0} (test : A → Bool) (xs : List A) (j : ℕ) (x : A) → slice_get xs j ≡ Some x → test x ≡ true → (l : ℕ) × (slice_get (filter test xs) l ≡ Some x)
item_kept {A} test [] j x is passes = absurd (search rules)
item_kept {A} test (y ∷ ys) zero x is passes =
    let e : y ≡ x = cc in
    (zero, subst (λ (b : Bool). slice_get (cond b (y ∷ filter test ys) (filter test ys)) zero ≡ Some x) (sym (subst (λ (z : A). test z ≡ true) (sym e) passes)) is)
item_kept {A} test (y ∷ ys) (suc j) x is passes = go (test y) (item_kept test ys j x is passes)
  where
    go : (b : Bool) → (l : ℕ) × (slice_get (filter test ys) l ≡ Some x) → (l : ℕ) × (slice_get (cond b (y ∷ filter test ys) (filter test ys)) l ≡ Some x)
    go false r = r
    go true r = (suc r.0, r.1)

-- lists of which the one is nowhere above the other
sum_below : (low high : List ℕ) → length high ≡ length low → ((q : ℕ) → slice_index low q ≤ slice_index high q) → sum low ≤ sum high
sum_below [] [] long up = omega arith
sum_below [] (y ∷ high) long up = absurd (omega (arith, long))
sum_below (x ∷ low) [] long up = absurd (omega (arith, long))
sum_below (x ∷ low) (y ∷ high) long up =
    omega (arith, sum_below low high (omega (arith, long)) (λ q. up (suc q)), up 0, sum_by-cons (λ (n : ℕ). n) x low, sum_by-cons (λ (n : ℕ). n) y high)

-- and where they are not the same, its sum is less
pub sum_rises : (low high : List ℕ) → length high ≡ length low → ((q : ℕ) → slice_index low q ≤ slice_index high q) → (low ≡ high → ⊥) → sum low < sum high
sum_rises [] [] long up other = absurd (other refl)
sum_rises [] (y ∷ high) long up other = absurd (omega (arith, long))
sum_rises (x ∷ low) [] long up other = absurd (omega (arith, long))
sum_rises (x ∷ low) (y ∷ high) long up other =
    elim (cases_lt x y) [
      | inl less ↦ omega (arith, sum_below low high (omega (arith, long)) (λ q. up (suc q)), less, a, b)
      | inr above ↦
          (let e : x ≡ y = omega (arith, up 0, above) in
          let rest = sum_rises low high (omega (arith, long)) (λ q. up (suc q)) (λ same. other (cc)) in
          omega (arith, rest, e, a, b))
    ]
  where
    a : sum (x ∷ low) ≡ x + sum low
    a = sum_by-cons (λ (n : ℕ). n) x low

    b : sum (y ∷ high) ≡ y + sum high
    b = sum_by-cons (λ (n : ℕ). n) y high

pub sum_bound : (table : List ℕ) (bound : ℕ) → AreWithin table bound → sum table ≤ length table * bound
sum_bound [] bound within = omega arith
sum_bound (x ∷ xs) bound within =
    let e : suc (length xs) * bound ≡ bound + length xs * bound = omega arith in
    omega (arith, sum_bound xs bound (λ q. within (suc q)), within 0, sum_by-cons (λ (n : ℕ). n) x xs, e)
