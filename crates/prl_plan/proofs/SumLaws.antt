-- Sums over the jobs of a task: how many actions their reads and writes are, by counts.
use Rattle.prl_base.proofs.Standard.{◌≡◌, ◌+◌, ◌-◌, ◌*◌, ◌<◌, ◌≤◌, ◌↔◌, ℕ, zero, suc, [], Option, Some, None, length, inl, inr, refl, sym, ◌∙◌, ap, subst, arith, if◌then◌else◌, is_some, cases_lt}
use Rattle.prl_plan.specs.Vocabulary.{Edge, Producer, Used, Operand, used_at, place_of, EnumeratesUsed, IsOrdered, CountsUsed, IsFirstReader, sum_below, walk, operand_from, operand_of, PlanView}
use Rattle.prl_plan.specs.Vocabulary.{reading, both_writes}
use Rattle.prl_plan.specs.declared.graphs.Producer.TheVariants as producers
use Rattle.prl_plan.specs.declared.walks.Operand.TheVariants as operands
use Rattle.prl_plan.proofs.PlaceLaws.{none_without_gaps}
use Rattle.prl_plan.proofs.RepeatLaws.{some_length}
use Rattle.prl_plan.proofs.UsedLaws.{rising_to, at_least, some_gaps, place_found, place_stands}

pub sum_plus : (f g h : ℕ → ℕ) (n : ℕ) → ((k : ℕ) → k < n → f k ≡ g k + h k) → sum_below f n ≡ sum_below g n + sum_below h n
sum_plus f g h zero each = refl
sum_plus f g h (suc n) each = omega (arith, sum_plus f g h n (λ k below. each k (omega (arith, below))), each n (omega arith))

pub sum_same : (f g : ℕ → ℕ) (n : ℕ) → ((k : ℕ) → k < n → f k ≡ g k) → sum_below f n ≡ sum_below g n
sum_same f g zero each = refl
sum_same f g (suc n) each = omega (arith, sum_same f g n (λ k below. each k (omega (arith, below))), each n (omega arith))

pub sum_ones : (f : ℕ → ℕ) (n : ℕ) → ((k : ℕ) → f k ≡ 1) → sum_below f n ≡ n
sum_ones f zero each = refl
sum_ones f (suc n) each = omega (arith, sum_ones f n each, each n)

pub sum_none : (f : ℕ → ℕ) (n : ℕ) → ((k : ℕ) → f k ≡ 0) → sum_below f n ≡ 0
sum_none f zero each = refl
sum_none f (suc n) each = omega (arith, sum_none f n each, each n)

-- one each up to p, and then two
pub sum_steps : (f : ℕ → ℕ) (p n : ℕ) → ((k : ℕ) → k < p → f k ≡ 1) → ((k : ℕ) → p ≤ k → f k ≡ 2) → sum_below f n ≡ n + (n - p)
sum_steps f p zero low high = omega arith
sum_steps f p (suc n) low high =
    let rest = sum_steps f p n low high in
    elim (cases_lt n p) [
      | inl below ↦ omega (arith, rest, low n below, below)
      | inr past ↦ omega (arith, rest, high n past, past)
    ]

-- two where there is something
abbrev pub two_if : Option ℕ → ℕ
two_if o = if is_some o then 2 else 0

-- two for each used instance below c
module _ (used : Used) where
  without_gaps : (n : ℕ) → length used.gaps ≡ 0 → sum_below (λ n. two_if (place_of used n)) n ≡ 0
  without_gaps n none = sum_none (λ n. two_if (place_of used n)) n (λ k. ap two_if (none_without_gaps used k none))

  module _ (edge : Edge) (all : EnumeratesUsed edge used) where
    counted : (c count : ℕ) → ((k : ℕ) → (k < count) ↔ (used_at used k < c)) → sum_below (λ n. two_if (place_of used n)) c ≡ 2 * count
    counted zero count is =
        elim (cases_lt 0 count) [
          | inl some ↦ absurd (let h = (is 0).0 some in omega (arith, h))
          | inr none ↦ omega (arith, none)
        ]
    counted (suc c) count is = go (place_of used c) refl (λ n before. counted c n before)
      where
        go : (o : Option ℕ) → place_of used c ≡ o → ((n : ℕ) → ((k : ℕ) → (k < n) ↔ (used_at used k < c)) → sum_below (λ n. two_if (place_of used n)) c ≡ 2 * n) → sum_below (λ n. two_if (place_of used n)) (suc c) ≡ 2 * count
        go None none shorter =
            (let rest = shorter count (λ k. (
              (λ inside. (let up = (is k).0 inside in
                  elim (cases_lt (used_at used k) c) [
                    | inl less ↦ less
                    | inr same ↦ absurd (let e : used_at used k ≡ c = omega (arith, up, same) in let f : ◌≡◌ {A = Option ℕ} None (Some k) = sym none ∙ place_found edge used all c k e in cc)
                  ])),
              (λ early. (is k).1 (omega (arith, early))),
            )) in
            omega (arith, rest, ap two_if none))
        go (Some j) there shorter =
            (let at = place_stands used c j there in
            let in_count = (is j).1 (omega (arith, at)) in
            let up = rising_to edge used all (suc j) j (omega arith) in
            let last : count ≤ suc j = elim (cases_lt (suc j) count) [
              | inl more ↦ absurd (let h = (is (suc j)).0 more in omega (arith, h, up, at))
              | inr few ↦ few
            ] in
            let rest = shorter j (λ k. (
              (λ inside. (let less = rising_to edge used all j k inside in omega (arith, less, at))),
              (λ early. elim (cases_lt k j) [
                | inl less ↦ less
                | inr past ↦ absurd (elim (cases_lt j k) [
                  | inl later ↦ (let r = rising_to edge used all k j later in omega (arith, r, at, early))
                  | inr same ↦ (let e : k ≡ j = omega (arith, past, same) in let f = ap (λ (x : ℕ). used_at used x) e in omega (arith, f, at, early))
                ])
              ]),
            )) in
            omega (arith, rest, ap two_if there, in_count, last))

    few_used : (c count : ℕ) → ((k : ℕ) → (k < count) ↔ (used_at used k < c)) → count ≤ c
    few_used c count is =
        elim (cases_lt c count) [
          | inl more ↦ absurd (omega (arith, (is c).0 more, at_least edge used all c))
          | inr few ↦ few
        ]

  pub writes_counted : IsOrdered used → (c count : ℕ) → CountsUsed used c count →
      (sum_below (λ n. two_if (place_of used n)) c ≡ 2 * count) × (count ≤ c)
  writes_counted is c count counts = elim is.order [
    | inl none ↦ (let e = counts.none none in (omega (arith, without_gaps c none, e), omega (arith, e)))
    | inr all ↦
        (let long = some_length (length used.gaps) (some_gaps all.0 used all.1) in
        (counted all.0 all.1 c count (counts.below long), few_used all.0 all.1 c count (counts.below long)))
  ]

-- the writes of an instance
pub length_writes : (plan : PlanView) (e n : ℕ) (o : Option ℕ) → length (if is_some o then both_writes plan e n else []) ≡ two_if o
length_writes plan e n None = refl
length_writes plan e n (Some k) = refl

-- the reads of a job on an edge: one action for a constant, two for an instance
length_reading : (plan : PlanView) (e : ℕ) (edge : Edge) (o : Operand) → ℕ
length_reading plan e edge o = length (reading plan e edge o)

pub constant_reads : (plan : PlanView) (e : ℕ) (edge : Edge) (value : _) → edge.from ≡ producers.Constant value → (n : ℕ) → length (reading plan e edge (operand_of edge n)) ≡ 1
constant_reads plan e edge value from n = go (walk edge.ops n)
  where
    told : (w : Operand) → length (reading plan e edge (operand_from (producers.Constant value) w)) ≡ 1
    told (operands.Const c) = refl
    told (operands.From m) = refl

    go : (w : Operand) → length (reading plan e edge (operand_from edge.from w)) ≡ 1
    go w = subst (λ (f : Producer). length (reading plan e edge (operand_from f w)) ≡ 1) (sym from) (told w)

module _ (plan : PlanView) (e : ℕ) (edge : Edge) (p : ℕ) (first : IsFirstReader edge.ops p) (task : _) (out : ℕ) (from : edge.from ≡ producers.Port task out) where
  abbrev lengths : Operand → ℕ
  lengths w = length (reading plan e edge w)

  as_walk : (n : ℕ) → operand_of edge n ≡ walk edge.ops n
  as_walk n = ap (λ (f : Producer). operand_from f (walk edge.ops n)) from

  pub early_read : (n : ℕ) → n < p → length (reading plan e edge (operand_of edge n)) ≡ 1
  early_read n below = ap lengths (as_walk n) ∙ go (walk edge.ops n) refl
    where
      go : (w : Operand) → walk edge.ops n ≡ w → length (reading plan e edge w) ≡ 1
      go (operands.Const c) is = refl
      go (operands.From m) is = absurd (omega (arith, first.first n m is, below))

  pub late_read : (n : ℕ) → p ≤ n → length (reading plan e edge (operand_of edge n)) ≡ 2
  late_read n past = ap lengths (as_walk n ∙ (first.reads n past).1)
