-- The numbers on the way to a preceding job are bounded by the date of the job that they begin with and by a hyperperiod for
-- each operator.
use Rattle.prl_base.proofs.Standard.{◌≡◌, ◌+◌, ◌*◌, ◌/◌, ◌<◌, ◌≤◌, ◌^◌, ℕ, zero, suc, List, [], ◌∷◌, length, refl, sym, ◌∙◌, ap, subst, arith, ℤ, pos, negsuc, ◌+ℤ◌, ◌-ℤ◌, ◌*ℤ◌, neg_ℤ, nat_abs}
use Rattle.prl_base.proofs.Standard.{pos-*ℤ-pos, pos-*ℤ-negsuc, zero-*ℤ, div-mul-le_self, mul-le-mul_left, mul-le-mul_right, ints}
use lib.IntN.{suc_ℤ, pred_ℤ}
use Rattle.prl_base.specs.Operators.{floor_div}
use Rattle.prl_base.specs.declared.operators.Clock.{Clock}
use Rattle.prl_base.specs.declared.operators.Op.{Op}
use Rattle.prl_base.specs.declared.operators.Op.TheVariants as operators
use Rattle.prl_plan.specs.Vocabulary.{Divides, TakeClock, Fits64, PrecedingFits}
use Rattle.prl_plan.proofs.Floors.{suc_is, pred_is}
use Rattle.prl_plan.proofs.Periods.{clock_divides}

-- a factor of a clock is at least 1
factor_some : (k y x : ℕ) → 1 ≤ x → k * y ≡ x → 1 ≤ k
factor_some zero y x some is = absurd (let z : 0 * y ≡ 0 = omega arith in omega (arith, z, is, some))
factor_some (suc k) y x some is = omega arith

pub divisor_within : (p h : ℕ) → 1 ≤ h → Divides p h → p ≤ h
divisor_within p h some (zero, is) = absurd (let z : 0 * p ≡ 0 = omega arith in omega (arith, z, is, some))
divisor_within p h some (suc t, is) = (let e : suc t * p ≡ t * p + p = omega arith in omega (arith, e, is))

-- the clock that an operator stands on has a period of at least 1 and within the hyperperiod
pub period_here : (hyper : ℕ) (ops : List Op) (producer consumer : Clock) → 1 ≤ hyper → TakeClock hyper ops producer consumer →
    (1 ≤ consumer.period) × (consumer.period ≤ hyper)
period_here hyper ops producer consumer some takes =
    let d = clock_divides hyper ops producer consumer takes in
    (d.0, divisor_within consumer.period hyper some d.1)

pub number_within : (n p room : ℕ) → 1 ≤ p → n * p ≤ room → n ≤ room
number_within n p room some is = omega (arith, mul-le-mul_left n some, is)

-- sizes of whole numbers
fits_64 : (z : ℤ) → nat_abs z < 2 ^ 63 → Fits64 z
fits_64 (pos n) small = record { sfits = small }
fits_64 (negsuc n) small = record { sfits = omega (arith, small) }

size_suc : (z : ℤ) → nat_abs (suc_ℤ z) ≤ nat_abs z + 1
size_suc (pos n) = omega arith
size_suc (negsuc zero) = omega arith
size_suc (negsuc (suc n)) = omega arith

size_pred : (z : ℤ) → nat_abs (pred_ℤ z) ≤ nat_abs z + 1
size_pred (pos zero) = omega arith
size_pred (pos (suc n)) = omega arith
size_pred (negsuc n) = omega arith

size_neg : (n : ℕ) → nat_abs (neg_ℤ (pos n)) ≡ n
size_neg zero = refl
size_neg (suc n) = refl

size_mul : (k : ℕ) (z : ℤ) → nat_abs (pos k *ℤ z) ≡ k * nat_abs z
size_mul k (pos n) = ap nat_abs (pos-*ℤ-pos k n)
size_mul zero (negsuc n) =
    let z : 0 * suc n ≡ 0 = omega arith in
    ap nat_abs (zero-*ℤ (negsuc n)) ∙ sym z
size_mul (suc k) (negsuc n) = ap nat_abs (pos-*ℤ-negsuc (suc k) n) ∙ size_neg (suc k * suc n)

-- a quotient times its divisor is less than the divisor away
size_floor : (z : ℤ) (k : ℕ) → 1 ≤ k → nat_abs (floor_div z k) * k ≤ nat_abs z + k
size_floor (pos n) k some = omega (arith, div-mul-le_self n k)
size_floor (negsuc n) k some = (let e : suc (n / k) * k ≡ n / k * k + k = omega arith in omega (arith, div-mul-le_self n k, e))

-- a number next to one whose date is bounded
next_fits : (hyper : ℕ) (ops : List Op) (producer consumer x : Clock) → 1 ≤ hyper → consumer.period ≡ x.period → TakeClock hyper ops producer x →
    (n next : ℤ) (room : ℕ) → nat_abs next ≤ nat_abs n + 1 → nat_abs n * consumer.period ≤ room → room + suc (length ops) * hyper < 2 ^ 63 →
    Fits64 next × (nat_abs next * x.period ≤ room + hyper) × (room + hyper + length ops * hyper < 2 ^ 63)
next_fits hyper ops producer consumer x some same takes n next room near is fits =
    let here = period_here hyper ops producer x some takes in
    let a : (nat_abs n + 1) * x.period ≡ nat_abs n * x.period + x.period = omega arith in
    let l : suc (length ops) * hyper ≡ length ops * hyper + hyper = omega arith in
    let within : nat_abs next * x.period ≤ room + hyper = omega (arith, mul-le-mul_right x.period near, a, ap (λ (y : ℕ). nat_abs n * y) same, is, here.1) in
    (fits_64 next (omega (arith, number_within (nat_abs next) x.period (room + hyper) here.0 within, fits, l)), within, omega (arith, l, fits))

-- the same over all whole numbers
pub preceding_fits : (hyper : ℕ) (ops : List Op) (producer consumer : Clock) → 1 ≤ hyper → TakeClock hyper ops producer consumer →
    (n : ℤ) (room : ℕ) → nat_abs n * consumer.period ≤ room → room + length ops * hyper < 2 ^ 63 → PrecedingFits ops n
preceding_fits hyper [] producer consumer some takes n room is fits = tt
preceding_fits hyper (operators.Up k ∷ ops) producer consumer some takes n room is fits =
    let x : Clock = takes.2.0 in
    let here = period_here hyper ops producer x some takes.2.2 in
    let factor = factor_some k consumer.period x.period here.0 takes.2.1.0 in
    let q : ℕ = nat_abs (floor_div n k) in
    let p : q * (k * consumer.period) ≡ q * x.period = ap (λ (y : ℕ). q * y) takes.2.1.0 in
    let a : q * (k * consumer.period) ≡ q * k * consumer.period = omega arith in
    let b : (nat_abs n + k) * consumer.period ≡ nat_abs n * consumer.period + k * consumer.period = omega arith in
    let l : suc (length ops) * hyper ≡ length ops * hyper + hyper = omega arith in (
      factor,
      preceding_fits hyper ops producer x some takes.2.2 (floor_div n k) (room + hyper)
          (omega (arith, mul-le-mul_right consumer.period (size_floor n k factor), p, a, b, is, takes.2.1.0, here.1)) (omega (arith, l, fits)),
    )
preceding_fits hyper (operators.Down k ∷ ops) producer consumer some takes n room is fits =
    let x : Clock = takes.2.0 in
    let a : nat_abs n * (k * x.period) ≡ k * nat_abs n * x.period = omega arith in
    let within : nat_abs (pos k *ℤ n) * x.period ≤ room =
    subst (λ (y : ℕ). y * x.period ≤ room) (sym (size_mul k n)) (omega (arith, ap (λ (y : ℕ). nat_abs n * y) takes.2.1.0, a, is)) in
    let l : suc (length ops) * hyper ≡ length ops * hyper + hyper = omega arith in (
      factor_of consumer.period k x.period takes.0 takes.2.1.0,
      fits_64 (pos k *ℤ n) (omega (arith, number_within (nat_abs (pos k *ℤ n)) x.period room (period_here hyper ops producer x some takes.2.2).0 within, fits)),
      preceding_fits hyper ops producer x some takes.2.2 (pos k *ℤ n) room within omega (arith, l, fits),
    )
  where
    factor_of : (y k x : ℕ) → 1 ≤ y → y ≡ k * x → 1 ≤ k
    factor_of y zero x some is = absurd (let z : 0 * x ≡ 0 = omega arith in omega (arith, z, is, some))
    factor_of y (suc k) x some is = omega arith
preceding_fits hyper (operators.Shift q ∷ ops) producer consumer some takes n room is fits =
    let l : suc (length ops) * hyper ≡ length ops * hyper + hyper = omega arith in
    preceding_fits hyper ops producer takes.2.0 some takes.2.2 n room (omega (arith, ap (λ (y : ℕ). nat_abs n * y) takes.2.1.0, is)) (omega (arith, l, fits))
preceding_fits hyper (operators.Tail ∷ ops) producer consumer some takes n room is fits =
    let x : Clock = takes.2.0 in
    let next = next_fits hyper ops producer consumer x some takes.2.1.0 takes.2.2 n (suc_ℤ n) room (size_suc n) is fits in
    (subst (λ (z : ℤ). Fits64 z × PrecedingFits ops z) (suc_is n) (next.0, preceding_fits hyper ops producer x some takes.2.2 (suc_ℤ n) (room + hyper) next.1 next.2))
preceding_fits hyper (operators.Cons c ∷ ops) producer consumer some takes n room is fits =
    let x : Clock = takes.2.0 in
    let same : pred_ℤ n ≡ n -ℤ pos 1 = omega (arith, ints, pred_is n) in
    let next = next_fits hyper ops producer consumer x some takes.2.1.0 takes.2.2 n (pred_ℤ n) room (size_pred n) is fits in
    (subst (λ (z : ℤ). Fits64 z × PrecedingFits ops z) same (next.0, preceding_fits hyper ops producer x some takes.2.2 (pred_ℤ n) (room + hyper) next.1 next.2))
preceding_fits hyper (operators.Fby c ∷ ops) producer consumer some takes n room is fits =
    let x : Clock = takes.2.0 in
    let same : pred_ℤ n ≡ n -ℤ pos 1 = omega (arith, ints, pred_is n) in
    let next = next_fits hyper ops producer consumer x some takes.2.1.0 takes.2.2 n (pred_ℤ n) room (size_pred n) is fits in
    (subst (λ (z : ℤ). Fits64 z × PrecedingFits ops z) same (next.0, preceding_fits hyper ops producer x some takes.2.2 (pred_ℤ n) (room + hyper) next.1 next.2))
