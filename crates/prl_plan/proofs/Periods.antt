-- Periodic precedence repeats with the hyperperiod.
use Rattle.prl_base.proofs.Standard.{◌≡◌, ◌+◌, ◌*◌, ◌-◌, ◌<◌, ◌≤◌, ℕ, zero, suc, List, [], ◌∷◌, Some, inl, inr, refl, sym, ◌∙◌, ap, subst, arith, ℤ, pos, negsuc, ◌+ℤ◌, ◌-ℤ◌, ◌*ℤ◌, ◌≤ℤ◌, slice_get}
use Rattle.prl_base.proofs.Standard.{zero-*ℤ, suc_ℤ-*ℤ, *ℤ_comm, mul-le-mul_right, cases_lt, ints}
use lib.IntN.{suc_ℤ, pred_ℤ}
use Rattle.prl_base.specs.Operators.{IsOperatorFor, floor_div}
use Rattle.prl_base.specs.declared.operators.Clock.{Clock}
use Rattle.prl_base.specs.declared.operators.Op.{Op}
use Rattle.prl_base.specs.declared.values.Ty.{Ty}
use Rattle.prl_base.specs.declared.operators.Op.TheVariants as operators
use Rattle.prl_plan.specs.Vocabulary.{Divides, TakeClock, preceding}
use Rattle.prl_plan.proofs.Floors.{floor_least, suc_is, pred_is}

pub mul_plus : (k c : ℕ) (a : ℤ) → pos k *ℤ (a +ℤ pos c) ≡ (pos k *ℤ a) +ℤ pos (k * c)
mul_plus zero c a = rw (zero-*ℤ (a +ℤ pos c), zero-*ℤ a) (let e : 0 * c ≡ 0 = omega arith in omega (arith, ints, e))
mul_plus (suc k) c a =
    rw (suc_ℤ-*ℤ (pos k) (a +ℤ pos c), suc_ℤ-*ℤ (pos k) a)
    (let e : suc k * c ≡ k * c + c = omega arith in omega (arith, ints, mul_plus k c a, e))

pub plus_mul : (a : ℤ) (c t : ℕ) → (a +ℤ pos c) *ℤ pos t ≡ (a *ℤ pos t) +ℤ pos (c * t)
plus_mul a c t =
    *ℤ_comm (a +ℤ pos c) (pos t) ∙ mul_plus t c a ∙ ap (λ (z : ℤ). z +ℤ pos (t * c)) (*ℤ_comm (pos t) a)
    ∙ ap (λ (z : ℕ). (a *ℤ pos t) +ℤ pos z) (let e : t * c ≡ c * t = omega arith in e)

le_self : (a : ℤ) → a ≤ℤ a
le_self a = omega (arith, ints)

pub floor_shift : (n : ℤ) (k c : ℕ) → 1 ≤ k → floor_div (n +ℤ pos (k * c)) k ≡ floor_div n k +ℤ pos c
floor_shift n k c some =
    let q : ℤ = floor_div n k in
    let p : ℤ = floor_div (n +ℤ pos (k * c)) k in
    let a : (pos k *ℤ q) ≤ℤ n = (floor_least n q k some).0 (le_self q) in
    let up : (q +ℤ pos c) ≤ℤ p = (floor_least (n +ℤ pos (k * c)) (q +ℤ pos c) k some).1 (omega (arith, ints, a, mul_plus k c q)) in
    let back : (p -ℤ pos c) +ℤ pos c ≡ p = omega (arith, ints) in
    let down : (p -ℤ pos c) ≤ℤ q =
    (floor_least n (p -ℤ pos c) k some).1
    (omega (arith, ints, (floor_least (n +ℤ pos (k * c)) p k some).0 (le_self p), ap (λ (z : ℤ). pos k *ℤ z) (sym back) ∙ mul_plus k c (p -ℤ pos c))) in
    omega (arith, ints, up, down)

pub cancel_right : (a b p : ℕ) → 1 ≤ p → a * p ≡ b * p → a ≡ b
cancel_right a b p some same =
    elim (cases_lt a b) [
      | inl below ↦ absurd
          (let e : (a + 1) * p ≡ a * p + p = omega arith in
          omega (arith, mul-le-mul_right p (let g : a + 1 ≤ b = omega arith in g), e, some, same))
      | inr above ↦
          elim (cases_lt b a) [
            | inl below ↦ absurd
                (let e : (b + 1) * p ≡ b * p + p = omega arith in
                omega (arith, mul-le-mul_right p (let g : b + 1 ≤ a = omega arith in g), e, some, same))
            | inr under ↦ omega (arith, above, under)
          ]
    ]

pub clock_divides : (hyper : ℕ) (ops : List Op) (producer consumer : Clock) → TakeClock hyper ops producer consumer →
    (1 ≤ consumer.period) × Divides consumer.period hyper
clock_divides hyper [] producer consumer takes = (takes.0, takes.1)
clock_divides hyper (op ∷ ops) producer consumer takes = (takes.0, takes.1)

suc_plus : (n : ℤ) (c : ℕ) → suc_ℤ (n +ℤ pos c) ≡ suc_ℤ n +ℤ pos c
suc_plus n c = omega (arith, ints, suc_is (n +ℤ pos c), suc_is n)

pred_plus : (n : ℤ) (c : ℕ) → pred_ℤ (n +ℤ pos c) ≡ pred_ℤ n +ℤ pos c
pred_plus n c = omega (arith, ints, pred_is (n +ℤ pos c), pred_is n)

-- how often the clock on the other side of an operator repeats
times_same : (hyper c d y x : ℕ) → 1 ≤ y → hyper ≡ c * y → hyper ≡ d * x → y ≡ x → c ≡ d
times_same hyper c d y x some hc hd e = cancel_right c d y some (sym hc ∙ hd ∙ ap (λ (z : ℕ). d * z) (sym e))

times_up : (hyper c d y x k : ℕ) → 1 ≤ y → hyper ≡ c * y → hyper ≡ d * x → k * y ≡ x → c ≡ k * d
times_up hyper c d y x k some hc hd e =
    cancel_right c (k * d) y some (sym hc ∙ hd ∙ ap (λ (z : ℕ). d * z) (sym e) ∙ (let g : d * (k * y) ≡ k * d * y = omega arith in g))

-- the numbers that precede repeat
pub preceding_shift : (ty : Ty) (hyper : ℕ) (ops : List Op) → ((k : ℕ) (op : Op) → slice_get ops k ≡ Some op → IsOperatorFor ty op) →
    (producer consumer : Clock) → TakeClock hyper ops producer consumer → (c d : ℕ) → hyper ≡ c * consumer.period → hyper ≡ d * producer.period →
    (n : ℤ) → preceding ops (n +ℤ pos c) ≡ preceding ops n +ℤ pos d
preceding_shift ty hyper [] are producer consumer takes c d hc hd n =
    ap (λ (z : ℕ). n +ℤ pos z) (times_same hyper c d consumer.period producer.period takes.0 hc hd (ap (λ (k : Clock). k.period) takes.2))
preceding_shift ty hyper (operators.Up k ∷ ops) are producer consumer takes c d hc hd n =
    let x : Clock = takes.2.0 in
    let div = clock_divides hyper ops producer x takes.2.2 in
    ap (λ (z : ℕ). preceding ops (floor_div (n +ℤ pos z) k)) (times_up hyper c div.1.0 consumer.period x.period k takes.0 hc div.1.1 takes.2.1.0)
    ∙ ap (λ (z : ℤ). preceding ops z) (floor_shift n k div.1.0 (are 0 (operators.Up k) refl).0)
    ∙ preceding_shift ty hyper ops (λ j o is. are (suc j) o is) producer x takes.2.2 div.1.0 d div.1.1 hd (floor_div n k)
preceding_shift ty hyper (operators.Down k ∷ ops) are producer consumer takes c d hc hd n =
    let x : Clock = takes.2.0 in
    let div = clock_divides hyper ops producer x takes.2.2 in
    ap (λ (z : ℤ). preceding ops z) (mul_plus k c n)
    ∙ ap (λ (z : ℕ). preceding ops ((pos k *ℤ n) +ℤ pos z)) (sym (times_up hyper div.1.0 c x.period consumer.period k div.0 div.1.1 hc (sym takes.2.1.0)))
    ∙ preceding_shift ty hyper ops (λ j o is. are (suc j) o is) producer x takes.2.2 div.1.0 d div.1.1 hd (pos k *ℤ n)
preceding_shift ty hyper (operators.Shift q ∷ ops) are producer consumer takes c d hc hd n =
    preceding_shift ty hyper ops (λ j o is. are (suc j) o is) producer takes.2.0 takes.2.2 c d (hc ∙ ap (λ (y : ℕ). c * y) takes.2.1.0) hd n
preceding_shift ty hyper (operators.Tail ∷ ops) are producer consumer takes c d hc hd n =
    ap (λ (z : ℤ). preceding ops z) (suc_plus n c)
    ∙ preceding_shift ty hyper ops (λ j o is. are (suc j) o is) producer takes.2.0 takes.2.2 c d (hc ∙ ap (λ (y : ℕ). c * y) takes.2.1.0) hd (suc_ℤ n)
preceding_shift ty hyper (operators.Cons v ∷ ops) are producer consumer takes c d hc hd n =
    ap (λ (z : ℤ). preceding ops z) (pred_plus n c)
    ∙ preceding_shift ty hyper ops (λ j o is. are (suc j) o is) producer takes.2.0 takes.2.2 c d (hc ∙ ap (λ (y : ℕ). c * y) takes.2.1.0) hd (pred_ℤ n)
preceding_shift ty hyper (operators.Fby v ∷ ops) are producer consumer takes c d hc hd n =
    ap (λ (z : ℤ). preceding ops z) (pred_plus n c)
    ∙ preceding_shift ty hyper ops (λ j o is. are (suc j) o is) producer takes.2.0 takes.2.2 c d (hc ∙ ap (λ (y : ℕ). c * y) takes.2.1.0) hd (pred_ℤ n)

-- what holds of the numbers below c, and of each number exactly where it holds c later, holds of all
pub everywhere : (P : ℤ → Type 0) → (c : ℕ) → 1 ≤ c → ((n : ℕ) → n < c → P (pos n)) → ((m : ℤ) → P m → P (m +ℤ pos c)) → ((m : ℤ) → P (m +ℤ pos c) → P m) →
    (m : ℤ) → P m
everywhere P c some base up down m = go m
  where
    nonneg : (fuel n : ℕ) → n ≤ fuel → P (pos n)
    nonneg zero n small = base n (omega arith)
    nonneg (suc fuel) n small =
        elim (cases_lt n c) [
          | inl below ↦ base n below
          | inr above ↦ subst P (let e : pos (n - c) +ℤ pos c ≡ pos n = omega (arith, ints, above) in e) (up (pos (n - c)) (nonneg fuel (n - c) (omega arith)))
        ]

    negative : (fuel k : ℕ) → k ≤ fuel → P (negsuc k)
    negative zero k small =
        down (negsuc k) (subst P (let e : pos (c - (k + 1)) ≡ negsuc k +ℤ pos c = omega (arith, ints, small, some) in e) (nonneg c (c - (k + 1)) (omega arith)))
    negative (suc fuel) k small =
        elim (cases_lt k c) [
          | inl below ↦ down (negsuc k) (subst P (let e : pos (c - (k + 1)) ≡ negsuc k +ℤ pos c = omega (arith, ints, below) in e) (nonneg c (c - (k + 1)) (omega arith)))
          | inr above ↦ down (negsuc k) (subst P (let e : negsuc (k - c) ≡ negsuc k +ℤ pos c = omega (arith, ints, above) in e) (negative fuel (k - c) (omega arith)))
        ]

    go : (m : ℤ) → P m
    go (pos n) = nonneg n n (omega arith)
    go (negsuc k) = negative k k (omega arith)
