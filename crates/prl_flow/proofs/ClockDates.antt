-- Dates of clocks, and the values of flows at them.
use Rattle.prl_base.proofs.Standard.{◌≡◌, ◌+◌, ◌-◌, ◌*◌, ◌/◌, ◌<◌, ◌≤◌, ◌↔◌, ℕ, zero, suc, List, length, slice_get, refl, sym, ◌∙◌, ap, arith, inl, inr, nat_abs, le-div_iff_mul-le, mul-div_cancel}
use Rattle.prl_base.proofs.Standard.{mul-div-mul_right, mul-le-mul_left, mul_comm, mul_assoc, mul-add, le_of_mul-le-mul_left, cases_lt, lt-leb, le-leb, ne_eqb, eq-eqb}
use Rattle.prl_base.specs.Vocabulary.{IsClock, date_at, IsResultClock}
use Rattle.prl_base.specs.declared.operators.Clock.{Clock}
use Rattle.prl_base.specs.declared.operators.Op.{Op}
use Rattle.prl_base.specs.declared.values.Value.{Value}
use Rattle.prl_base.specs.declared.operators.Op.TheVariants as operators
use Rattle.prl_flow.specs.Vocabulary.{dates_before, IsUpTo, value_at, delay, value_of_operator, OperatorByDate, instance_of_operator, AreFirst, IsDenominated}

-- a quotient that is rounded up
pub below_ceiling : (d t k : ℕ) → 1 ≤ t → (k < (d + t - 1) / t) ↔ (k * t < d)
below_ceiling d t k positive =
    let quotient : (k + 1 ≤ (d + t - 1) / t) ↔ ((k + 1) * t ≤ d + t - 1) = le-div_iff_mul-le (omega arith) in (
      λ below. let h : (k + 1) * t ≤ d + t - 1 = quotient.0 (omega arith) in omega arith,
      λ below. let h : k + 1 ≤ (d + t - 1) / t = quotient.1 (omega arith) in omega arith,
    )

pub dates_before_late : (until : ℕ) (c : Clock) → until ≤ c.start → dates_before until c ≡ 0
dates_before_late until c late = rw (le-leb until c.start late)

pub dates_before_early : (until : ℕ) (c : Clock) → c.start < until → dates_before until c ≡ (until - c.start + c.period - 1) / c.period
dates_before_early until c early = rw (lt-leb until c.start early)

-- the dates before `until` are those of a number below their count
pub dates_before_number : (until : ℕ) (c : Clock) (k : ℕ) → IsClock c → (k < dates_before until c) ↔ (date_at c k < until)
dates_before_number until c k clock = elim (cases_lt c.start until) [
  | inl early ↦
      let count = dates_before_early until c early in
      let number = below_ceiling (until - c.start) c.period k clock in (
        λ below. let h : k * c.period < until - c.start = number.0 (rw count at below) in omega arith,
        λ before. rw count (number.1 (omega arith)),
      )
  | inr late ↦
      let count = dates_before_late until c late in
      (λ below. let h : k < 0 = rw count at below in absurd (omega arith), λ before. absurd (omega arith))
]

pub dates_before_le : (until : ℕ) (c : Clock) → IsClock c → dates_before until c ≤ until
dates_before_le until c clock = elim (cases_lt until (dates_before until c)) [
  | inl more ↦
      let h : date_at c until < until = (dates_before_number until c until clock).0 more in
      let g : until * 1 ≤ until * c.period = mul-le-mul_left until clock in
      absurd (omega arith)
  | inr le ↦ le
]

-- a flow up to a date has as many values as its clock has dates before it
pub IsUpTo_from_length : (until : ℕ) (c : Clock) (values : List Value) → IsClock c → length values ≡ dates_before until c → IsUpTo until c values
IsUpTo_from_length until c values clock same k = rw same (dates_before_number until c k clock)

pub length_from_IsUpTo : (until : ℕ) (c : Clock) (values : List Value) → IsClock c → IsUpTo until c values → length values ≡ dates_before until c
length_from_IsUpTo until c values clock up_to =
    let count = dates_before until c in
    let not_less : length values < count → ⊥ = λ less. let e : length values < length values = (up_to (length values)).1 ((dates_before_number until c (length values) clock).0 less) in omega arith in
    let not_more : count < length values → ⊥ = λ more. let e : count < count = (dates_before_number until c count clock).1 ((up_to count).0 more) in omega arith in
    elim (cases_lt (length values) count) [
      | inl less ↦ absurd (not_less less)
      | inr le ↦ elim (cases_lt count (length values)) [
        | inl more ↦ absurd (not_more more)
        | inr ge ↦ omega arith
      ]
    ]

-- the value of a flow at its k-th date is its k-th value
pub value_at_date : (c : Clock) (values : List Value) (k : ℕ) → IsClock c → value_at c values (date_at c k) ≡ slice_get values k
value_at_date c values k clock =
    let e : c.start + k * c.period - c.start ≡ k * c.period = omega arith in
    let q : k * c.period / c.period ≡ k = mul-div_cancel k clock in
    ap (slice_get values) (ap (λ n. n / c.period) e ∙ q)

-- the same at a date that is written otherwise
pub value_at_number : (c : Clock) (values : List Value) (t k : ℕ) → IsClock c → t ≡ date_at c k → value_at c values t ≡ slice_get values k
value_at_number c values t k clock same = rw same (value_at_date c values k clock)

-- at its j-th date an operator has the value of its j-th instance
pub value_of_operator_date : (op : Op) (x : Clock) (values : List Value) (y : Clock) (j : ℕ) → IsClock x → IsClock y → IsResultClock op x y → IsDenominated op
    → value_of_operator op x values y.start (date_at y j) ≡ instance_of_operator op values j
value_of_operator_date (operators.Fby c) x values y zero xs ys (period, start) fits = rw (eq-eqb (date_at y zero) y.start (omega arith)) refl
value_of_operator_date (operators.Fby c) x values y (suc i) xs ys (period, start) fits =
    let later : date_at y (suc i) ≡ y.start → ⊥ = λ e. omega arith in
    let number : date_at y (suc i) - x.period ≡ date_at x i = rw (period, start) (omega arith) in
    rw (ne_eqb (date_at y (suc i)) y.start later) (value_at_number x values (date_at y (suc i) - x.period) i xs number)
value_of_operator_date (operators.Cons c) x values y zero xs ys (period, start) fits = rw (eq-eqb (date_at y zero) y.start (omega arith)) refl
value_of_operator_date (operators.Cons c) x values y (suc i) xs ys (period, start) fits =
    let later : date_at y (suc i) ≡ y.start → ⊥ = λ e. omega arith in
    let number : date_at y (suc i) ≡ date_at x i = rw (period, ← start) (omega arith) in
    rw (ne_eqb (date_at y (suc i)) y.start later) (value_at_number x values (date_at y (suc i)) i xs number)
value_of_operator_date operators.Tail x values y j xs ys (period, start) fits =
    let number : date_at y j ≡ date_at x (j + 1) = rw (period, start) (omega arith) in
    value_at_number x values (date_at y j) (j + 1) xs number
value_of_operator_date (operators.Up k) x values y j xs ys (period, start) fits =
    let e : y.start + j * y.period - x.start ≡ j * y.period = rw start (omega arith) in
    let q : j * y.period / (k * y.period) ≡ j / k = mul-div-mul_right j k ys in
    ap (slice_get values) (ap (λ n. n / x.period) e ∙ ap (λ p. j * y.period / p) (sym period) ∙ q)
value_of_operator_date (operators.Down k) x values y j xs ys (period, start) fits =
    let turned : j * (k * x.period) ≡ k * j * x.period = sym (mul_assoc j k x.period) ∙ ap (λ n. n * x.period) (mul_comm j k) in
    let number : date_at y j ≡ date_at x (k * j) = rw (period, start) (ap (λ n. x.start + n) turned) in
    value_at_number x values (date_at y j) (k * j) xs number
value_of_operator_date (operators.Shift q) x values y j xs ys (period, start) fits =
    let order : x.start ≤ y.start = le_of_mul-le-mul_left {k = q.den} (omega arith) fits in
    let gap : q.den * y.start ≡ q.den * (x.start + (y.start - x.start)) = ap (λ n. q.den * n) (omega arith) in
    let apart : nat_abs q.num * x.period ≡ (y.start - x.start) * q.den = omega (arith, gap, start, mul-add q.den x.start (y.start - x.start), mul_comm q.den (y.start - x.start)) in
    let by : delay q x.period ≡ y.start - x.start = ap (λ n. n / q.den) apart ∙ mul-div_cancel (y.start - x.start) fits in
    let number : date_at y j - delay q x.period ≡ date_at x j = rw (by, period) (omega arith) in
    value_at_number x values (date_at y j - delay q x.period) j xs number

count_le : (count bound : ℕ) → ((j : ℕ) → j < count → j < bound) → count ≤ bound
count_le count bound within = elim (cases_lt bound count) [
  | inl more ↦ let e : bound < bound = within bound more in absurd (omega arith)
  | inr le ↦ le
]

-- as many values as dates before `until`, where each of them is there
pub dates_before_within : (until : ℕ) (c : Clock) (bound : ℕ) → IsClock c → ((j : ℕ) → date_at c j < until → j < bound) → dates_before until c ≤ bound
dates_before_within until c bound clock within =
    count_le (dates_before until c) bound (λ j below. within j ((dates_before_number until c j clock).0 below))

-- The first instances of an operator are its flow by date.
pub OperatorByDate_from_instances : (op : Op) (x : Clock) (values : List Value) (y : Clock) (results : List Value) (until : ℕ)
    → IsClock x → IsClock y → IsResultClock op x y → IsDenominated op
    → AreFirst (instance_of_operator op values) (dates_before until y) results → OperatorByDate op x values y results until
OperatorByDate_from_instances op x values y results until xs ys clock fits first = record {
  clock = clock;
  up_to = IsUpTo_from_length until y results ys first.number;
  each = λ t (k, same) before.
      let number : date_at y k < until = rw same at before in
      value_at_number y results t k ys same
      ∙ first.each k ((dates_before_number until y k ys).1 number)
      ∙ sym (ap (value_of_operator op x values y.start) same ∙ value_of_operator_date op x values y k xs ys clock fits);
}
