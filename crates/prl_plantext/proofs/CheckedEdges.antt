-- The tests of a graph pass exactly where it is well formed: clocks and edges.
use Rattle.prl_base.proofs.Standard.{◌≡◌, ◌==◌, ◌+◌, ◌-◌, ◌*◌, ◌/◌, ◌%◌, ◌≤◌, ◌≤ℤ◌, ℕ, ℤ, pos, negsuc, Bool, true, false, List, [], ◌∷◌, Option, Some, None, if◌then◌else◌, nat_abs, nat_le, refl, ap}
use Rattle.prl_base.proofs.Standard.{sym, ◌∙◌, arith, list_all, int_le, and_parts, false≢true, eqb-true, eq-eqb, le-leb, leb-true, eq_of_mul-eq-mul_left, le_of_mul-le-mul_left, mod-add-div}
use Rattle.prl_base.proofs.Standard.{mul-mod_left, ints}
use Rattle.prl_base.specs.Vocabulary.{IsOperatorFor, IsResultClock, IsOfType}
use Rattle.prl_base.specs.declared.operators.Clock.{Clock}
use Rattle.prl_base.specs.declared.operators.Op.{Op}
use Rattle.prl_base.specs.declared.operators.TheConstants.{MAX_FACTOR}
use Rattle.prl_base.specs.declared.values.Ty.{Ty}
use Rattle.prl_base.specs.declared.values.Value.{Value}
use Rattle.prl_base.specs.Options.{◌>>=◌}
use Rattle.prl_base.specs.declared.operators.Op.TheVariants as operators
use Rattle.prl_base.specs.declared.values.Ty.TheVariants as types
use Rattle.prl_base.specs.declared.values.Value.TheVariants as values
use Rattle.prl_plan.specs.Graphs.{TakeClock}
use Rattle.prl_plantext.specs.code.Checks.{clock_before, divides, earlier_by, earlier_by_parts, faster, is_factor, is_of_type, is_operator_for, producer_clock}
use Rattle.prl_plantext.proofs.Checked.{Tells, and_tells, divides_tells, false_tells, least_tells, true_tells}
use Rattle.prl_plantext.proofs.Integers.{integer_fits, integer_is}

-- operators

pub type_tells : (ty : Ty) (value : Value) → Tells (is_of_type ty value) (IsOfType ty value)
type_tells types.Int (values.Int n) = record { so = λ e. (refl, integer_fits n e); then = λ h. integer_is n h.1 }
type_tells types.Int (values.Bool b) = false_tells (λ h. cc)
type_tells types.Bool (values.Int n) = false_tells (λ h. cc)
type_tells types.Bool (values.Bool b) = true_tells (refl, tt)

factor_tells : (k : ℕ) → Tells (is_factor k) ((1 ≤ k) × (k ≤ MAX_FACTOR))
factor_tells k = and_tells (nat_le 1 k) (nat_le k MAX_FACTOR) (least_tells 1 k) (least_tells k MAX_FACTOR)

not_negative_tells : (z : ℤ) → Tells (int_le (pos 0) z) (pos 0 ≤ℤ z)
not_negative_tells (pos n) = record { so = λ e. omega (arith, ints); then = λ h. le-leb 0 n (omega arith) }
not_negative_tells (negsuc n) = record { so = λ e. absurd (false≢true e); then = λ h. absurd (omega (arith, ints, h)) }

pub operator_tells : (ty : Ty) (op : Op) → Tells (is_operator_for ty op) (IsOperatorFor ty op)
operator_tells ty (operators.Fby c) = type_tells ty c
operator_tells ty (operators.Cons c) = type_tells ty c
operator_tells ty operators.Tail = true_tells tt
operator_tells ty (operators.Up k) = factor_tells k
operator_tells ty (operators.Down k) = factor_tells k
operator_tells ty (operators.Shift q) = and_tells (nat_le 1 q.den) (int_le (pos 0) q.num) (least_tells 1 q.den) (not_negative_tells q.num)

-- clocks before an operator

-- an optional clock is that clock
abbrev pub Finds : Option Clock → Clock → Type 0
Finds found clock = found ≡ Some clock

same_clock : (p q s t : ℕ) → p ≡ q → s ≡ t → ◌≡◌ {A = Clock} (record { period = p; start = s }) (record { period = q; start = t })
same_clock p q s t e f = cc

some_clock : (a b : Clock) → Some a ≡ Some b → a ≡ b
some_clock a b e = cc

-- the clock is earlier by so many ticks
earlier_so : (t : Bool) (ticks : ℕ) (x y : Clock) → nat_le ticks y.start ≡ t →
    (if t then Some (record { period = y.period; start = y.start - ticks }) else None) ≡ Some x → (y.period ≡ x.period) × (y.start ≡ x.start + ticks)
earlier_so true ticks x y low e =
    let same = some_clock (record { period = y.period; start = y.start - ticks }) x e in
    let small = leb-true ticks y.start low in
    let start : y.start - ticks ≡ x.start = ap (λ (c : Clock). c.start) same in
    (ap (λ (c : Clock). c.period) same, omega (arith, small, start))
earlier_so false ticks x y low e = cc

earlier_then : (ticks : ℕ) (x y : Clock) → y.period ≡ x.period → y.start ≡ x.start + ticks → earlier_by ticks y ≡ Some x
earlier_then ticks x y period start =
    ap (λ t. (if t then Some (record { period = y.period; start = y.start - ticks }) else None)) (le-leb ticks y.start (omega (arith, start)))
    ∙ ap Some (same_clock y.period x.period (y.start - ticks) x.start period (omega (arith, start)))

parts_so : (t : Bool) (parts of : ℕ) (x y : Clock) → (parts % of == 0) ≡ t →
    (if t then earlier_by (parts / of) y else None) ≡ Some x → (y.period ≡ x.period) × (of * y.start ≡ of * x.start + parts)
parts_so true parts of x y whole e =
    let both = earlier_so (nat_le (parts / of) y.start) (parts / of) x y refl e in
    let none = eqb-true (parts % of) 0 whole in
    let all = mod-add-div parts of in
    let start = ap (λ n. of * n) both.1 in
    (both.0, omega (arith, none, all, start))
parts_so false parts of x y whole e = cc

low_start : (of a b parts : ℕ) → 1 ≤ of → of * a ≡ of * b + parts → b ≤ a
low_start of a b parts some e = le_of_mul-le-mul_left {k = of} (omega (arith, e)) (omega (arith, some))

one_quotient : (k a b : ℕ) → 1 ≤ k → k * a ≡ k * b → a ≡ b
one_quotient k a b some e = eq_of_mul-eq-mul_left k (omega (arith, some)) a b e

parts_then : (parts of : ℕ) (x y : Clock) → 1 ≤ of → y.period ≡ x.period → of * y.start ≡ of * x.start + parts → earlier_by_parts parts of y ≡ Some x
parts_then parts of x y some period start =
    let low = low_start of y.start x.start parts some start in
    let split : y.start ≡ x.start + (y.start - x.start) = omega (arith, low) in
    let spread : of * y.start ≡ of * (x.start + (y.start - x.start)) = ap (λ n. of * n) split in
    let is : parts ≡ (y.start - x.start) * of = omega (arith, start, spread) in
    let whole : parts % of ≡ 0 = ap (λ n. n % of) is ∙ mul-mod_left (y.start - x.start) of in
    let all = mod-add-div parts of in
    let same : of * (parts / of) ≡ of * (y.start - x.start) = omega (arith, all, whole, is) in
    let quotient : parts / of ≡ y.start - x.start = one_quotient of (parts / of) (y.start - x.start) some same in
    ap (λ t. (if t then earlier_by (parts / of) y else None)) (eq-eqb (parts % of) 0 whole)
    ∙ earlier_then (parts / of) x y period (omega (arith, quotient, split))

faster_so : (t : Bool) (k : ℕ) (x y : Clock) → (y.period % k == 0) ≡ t →
    (if t then Some (record { period = y.period / k; start = y.start }) else None) ≡ Some x → (y.period ≡ k * x.period) × (y.start ≡ x.start)
faster_so true k x y whole e =
    let same = some_clock (record { period = y.period / k; start = y.start }) x e in
    let none = eqb-true (y.period % k) 0 whole in
    let all = mod-add-div y.period k in
    let period : y.period / k ≡ x.period = ap (λ (c : Clock). c.period) same in
    let times = ap (λ n. k * n) period in
    (omega (arith, none, all, times), ap (λ (c : Clock). c.start) same)
faster_so false k x y whole e = cc

faster_then : (k : ℕ) (x y : Clock) → 1 ≤ k → y.period ≡ k * x.period → y.start ≡ x.start → faster k y ≡ Some x
faster_then k x y some period start =
    let swapped : k * x.period ≡ x.period * k = omega arith in
    let whole : y.period % k ≡ 0 = ap (λ n. n % k) (period ∙ swapped) ∙ mul-mod_left x.period k in
    let all = mod-add-div y.period k in
    let same : k * (y.period / k) ≡ k * x.period = omega (arith, all, whole, period) in
    ap (λ t. (if t then Some (record { period = y.period / k; start = y.start }) else None)) (eq-eqb (y.period % k) 0 whole)
    ∙ ap Some (same_clock (y.period / k) x.period y.start x.start (one_quotient k (y.period / k) x.period some same) start)

-- an operator is in range, whatever the type
pub before_so : (ty : Ty) (op : Op) (x y : Clock) → IsOperatorFor ty op → clock_before op y ≡ Some x → IsResultClock op x y
before_so ty (operators.Fby c) x y in_range e = let same = some_clock y x e in (ap (λ (c : Clock). c.period) same, ap (λ (c : Clock). c.start) same)
before_so ty (operators.Cons c) x y in_range e =
    let same = some_clock (record { period = y.period; start = y.start + y.period }) x e in
    let period : y.period ≡ x.period = ap (λ (c : Clock). c.period) same in
    let start : y.start + y.period ≡ x.start = ap (λ (c : Clock). c.start) same in
    (period, omega (arith, start, period))
before_so ty operators.Tail x y in_range e =
    let both = earlier_so (nat_le y.period y.start) y.period x y refl e in
    let period = both.0 in
    let start = both.1 in
    (period, omega (arith, start, period))
before_so ty (operators.Up k) x y in_range e =
    let same = some_clock (record { period = k * y.period; start = y.start }) x e in
    (ap (λ (c : Clock). c.period) same, ap (λ (c : Clock). c.start) same)
before_so ty (operators.Down k) x y in_range e = faster_so (y.period % k == 0) k x y refl e
before_so ty (operators.Shift q) x y in_range e =
    let both = parts_so (nat_abs q.num * y.period % q.den == 0) (nat_abs q.num * y.period) q.den x y refl e in
    (both.0, both.1 ∙ ap (λ p. q.den * x.start + nat_abs q.num * p) both.0)

pub before_then : (ty : Ty) (op : Op) (x y : Clock) → IsOperatorFor ty op → IsResultClock op x y → clock_before op y ≡ Some x
before_then ty (operators.Fby c) x y in_range is = ap Some (same_clock y.period x.period y.start x.start is.0 is.1)
before_then ty (operators.Cons c) x y in_range is =
    let period = is.0 in
    let start = is.1 in
    ap Some (same_clock y.period x.period (y.start + y.period) x.start period (omega (arith, start, period)))
before_then ty operators.Tail x y in_range is =
    let period = is.0 in
    let start = is.1 in
    earlier_then y.period x y period (omega (arith, start, period))
before_then ty (operators.Up k) x y in_range is = ap Some (same_clock (k * y.period) x.period y.start x.start is.0 is.1)
before_then ty (operators.Down k) x y in_range is = faster_then k x y in_range.0 is.0 is.1
before_then ty (operators.Shift q) x y in_range is =
    parts_then (nat_abs q.num * y.period) q.den x y in_range.0 is.0 (is.1 ∙ ap (λ p. q.den * x.start + nat_abs q.num * p) (sym is.0))

-- the producer's clock

abbrev pub AreOperatorsFor : Ty → List Op → Type 0
AreOperatorsFor ty [] = Unit {0}
AreOperatorsFor ty (op ∷ ops) = IsOperatorFor ty op × AreOperatorsFor ty ops

pub operators_are : (ty : Ty) (ops : List Op) → list_all (is_operator_for ty) ops ≡ true → AreOperatorsFor ty ops
operators_are ty [] e = tt
operators_are ty (op ∷ ops) e =
    let parts = and_parts (is_operator_for ty op) (list_all (is_operator_for ty) ops) e in
    ((operator_tells ty op).so parts.0, operators_are ty ops parts.1)

last_so : (t : Bool) (clock producer : Clock) → (if t then Some clock else None) ≡ Some producer → (t ≡ true) × (clock ≡ producer)
last_so true clock producer e = (refl, some_clock clock producer e)
last_so false clock producer e = cc

bound_so : {A : Type 0} (t : Bool) (o : Option Clock) (f : Clock → Option A) (x : A) → (if t then o >>= f else None) ≡ Some x →
    (t ≡ true) × ((clock : Clock) × (o ≡ Some clock) × (f clock ≡ Some x))
bound_so true None f x e = cc
bound_so true (Some clock) f x e = (refl, (clock, refl, e))
bound_so false o f x e = cc

pub clock_so : (hyper : ℕ) (ty : Ty) (ops : List Op) (consumer producer : Clock) → AreOperatorsFor ty ops →
    producer_clock hyper ops consumer ≡ Some producer → TakeClock hyper ops producer consumer
clock_so hyper ty [] consumer producer are e =
    let last = last_so (divides consumer.period hyper) consumer producer e in
    let whole = (divides_tells consumer.period hyper).so last.0 in
    (whole.0, whole.1, last.1)
clock_so hyper ty (op ∷ ops) consumer producer are e =
    let bound = bound_so (divides consumer.period hyper) (clock_before op consumer) (producer_clock hyper ops) producer e in
    let whole = (divides_tells consumer.period hyper).so bound.0 in
    let between = bound.1.0 in
    (whole.0, whole.1, (between, before_so ty op between consumer are.0 bound.1.1, clock_so hyper ty ops between producer are.1 bound.1.2))

pub clock_then : (hyper : ℕ) (ty : Ty) (ops : List Op) (consumer producer : Clock) → AreOperatorsFor ty ops →
    TakeClock hyper ops producer consumer → producer_clock hyper ops consumer ≡ Some producer
clock_then hyper ty [] consumer producer are takes =
    ap (λ t. (if t then Some consumer else None)) ((divides_tells consumer.period hyper).then (takes.0, takes.1)) ∙ ap Some takes.2
clock_then hyper ty (op ∷ ops) consumer producer are takes =
    ap (λ t. (if t then clock_before op consumer >>= producer_clock hyper ops else None)) ((divides_tells consumer.period hyper).then (takes.0, takes.1))
    ∙ ap (λ o. o >>= producer_clock hyper ops) (before_then ty op takes.2.0 consumer are.0 takes.2.1)
    ∙ clock_then hyper ty ops takes.2.0 producer are.1 takes.2.2
