-- Tables of first dates, and what each of their indices has.
use Rattle.prl_base.proofs.Standard.{◌≡◌, ◌+◌, ◌-◌, ◌<◌, ◌≤◌, ◌++◌, ℕ, zero, suc, List, [], ◌∷◌, length, replicate, get_or, inl, inr, refl, sym, ◌∙◌, ap, subst, arith, slice_index, ext_get_or}
use Rattle.prl_base.proofs.Standard.{cases_lt}
use Rattle.prl_plan.specs.declared.graphs.TaskGraph.{TaskGraph}
use Rattle.prl_dates.specs.Vocabulary.{First, jobs_of, jobs_before, first_of, IsFirstTable, AreWithin}
use Rattle.prl_dates.proofs.Indices.{before_rises}
use Rattle.prl_dates.proofs.Readings.{before_next}

pub get_past : {A : Type 0} (xs : List A) (k : ℕ) (d : A) → length xs ≤ k → get_or xs k d ≡ d
get_past [] k d past = refl
get_past (x ∷ xs) zero d past = absurd (omega arith)
get_past (x ∷ xs) (suc k) d past = get_past xs k d (omega (arith, past))

pub get_first : {A : Type 0} (xs ys : List A) (k : ℕ) (d : A) → k < length xs → get_or (xs ++ ys) k d ≡ get_or xs k d
get_first [] ys k d below = absurd (omega arith)
get_first (x ∷ xs) ys zero d below = refl
get_first (x ∷ xs) ys (suc k) d below = get_first xs ys k d (omega (arith, below))

pub get_second : {A : Type 0} (xs ys : List A) (k : ℕ) (d : A) → get_or (xs ++ ys) (length xs + k) d ≡ get_or ys k d
get_second [] ys k d = ap (λ (n : ℕ). get_or ys n d) (let e : 0 + k ≡ k = omega arith in e)
get_second (x ∷ xs) ys k d = ap (λ (n : ℕ). get_or (x ∷ (xs ++ ys)) n d) (let e : suc (length xs) + k ≡ suc (length xs + k) = omega arith in e) ∙ get_second xs ys k d

pub get_same : {A : Type 0} (n k : ℕ) (x d : A) → k < n → get_or (replicate n x) k d ≡ x
get_same zero k x d below = absurd (omega arith)
get_same (suc n) zero x d below = refl
get_same (suc n) (suc k) x d below = get_same n k x d (omega (arith, below))

pub length_both : {A : Type 0} (xs ys : List A) → length (xs ++ ys) ≡ length xs + length ys
length_both [] ys = (let e : length ys ≡ 0 + length ys = omega arith in e)
length_both (x ∷ xs) ys = omega (arith, length_both xs ys)

pub length_same : {A : Type 0} (n : ℕ) (x : A) → length (replicate n x) ≡ n
length_same zero x = refl
length_same (suc n) x = omega (arith, length_same n x)

module _ (graph : TaskGraph) where
  pub first_more : (first : First) (k : ℕ) (table : List ℕ) (value : ℕ) → IsFirstTable graph first k table → value ≡ first_of graph first k →
      IsFirstTable graph first (k + 1) (table ++ replicate (jobs_of graph k) value)
  first_more first k table value is same = record {
    long =
        length_both table (replicate (jobs_of graph k) value)
        ∙ (let l = is.long in let r = length_same (jobs_of graph k) value in let n = before_next graph k in
        let e : length table + length (replicate (jobs_of graph k) value) ≡ jobs_before graph (k + 1) = omega (arith, l, r, n) in e);
    each = λ i p below inside.
        elim (cases_lt i k) [
          | inl less ↦
              (let r = before_rises graph i k less in let l = is.long in
              get_first table (replicate (jobs_of graph k) value) (jobs_before graph i + p) 0 (omega (arith, r, l, inside)) ∙ is.each i p less inside)
          | inr above ↦
              (let e : i ≡ k = omega (arith, above, below) in
              let q : jobs_before graph i + p ≡ length table + p = (let l = is.long in omega (arith, l, ap (λ (x : ℕ). jobs_before graph x) e)) in
              ap (λ (x : ℕ). get_or (table ++ replicate (jobs_of graph k) value) x 0) q ∙ get_second table (replicate (jobs_of graph k) value) p 0
              ∙ get_same (jobs_of graph k) p value 0 (subst (λ (x : ℕ). p < jobs_of graph x) e inside) ∙ same ∙ ap (λ (x : ℕ). first_of graph first x) (sym e))
        ];
  }

  pub first_none : (first : First) → IsFirstTable graph first 0 []
  first_none first = record { long = refl; each = λ i p below. absurd (omega (arith, below)) }

  -- each place of a table is an index
  pub index_found : (count q : ℕ) → q < jobs_before graph count → (i : ℕ) × (p : ℕ) × (i < count) × (p < jobs_of graph i) × (q ≡ jobs_before graph i + p)
  index_found zero q below = absurd (omega arith)
  index_found (suc count) q below =
      elim (cases_lt q (jobs_before graph count)) [
        | inl less ↦ (let s = index_found count q less in (s.0, s.1, omega (arith, s.2), s.3, s.4))
        | inr above ↦ (count, q - jobs_before graph count, (omega arith), omega (arith, above, below), omega (arith, above))
      ]

  pub first_within : (first : First) (table : List ℕ) (bound : ℕ) → IsFirstTable graph first (length graph.tasks) table →
      ((i : ℕ) → i < length graph.tasks → first_of graph first i ≤ bound) → AreWithin table bound
  first_within first table bound is each q =
      elim (cases_lt q (length table)) [
        | inl inside ↦
            (let s = index_found (length graph.tasks) q (omega (arith, is.long, inside)) in
            omega (arith, ap (λ (x : ℕ). slice_index table x) s.4 ∙ is.each s.0 s.1 s.2 s.3, each s.0 s.2))
        | inr past ↦ omega (arith, get_past table q 0 past)
      ]

  pub first_one : (first : First) (a b : List ℕ) → IsFirstTable graph first (length graph.tasks) a → IsFirstTable graph first (length graph.tasks) b → a ≡ b
  first_one first a b of_a of_b =
      ext_get_or 0 a b (of_a.long ∙ sym of_b.long)
      (λ q below.
      (let s = index_found (length graph.tasks) q (omega (arith, of_a.long, below)) in
      ap (λ (x : ℕ). get_or a x 0) s.4 ∙ of_a.each s.0 s.1 s.2 s.3 ∙ sym (of_b.each s.0 s.1 s.2 s.3) ∙ sym (ap (λ (x : ℕ). get_or b x 0) s.4)))
