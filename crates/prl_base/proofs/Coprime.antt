-- Numbers without a common divisor: what divides a product and is prime to one factor divides the other; over their
-- greatest common divisor, two numbers have none but 1.
use Prim.Native.Nat.{◌∣◌}
use Rattle.std.proofs.Common.{◌≡◌, ◌+◌, ◌-◌, ◌*◌, ◌/◌, ◌<◌, ◌≤◌, ℕ, zero, suc, refl, sym, ap, ◌∙◌, subst, arith, inl, inr}
use Rattle.std.proofs.Math.Nat.{mul-sub, mul_comm, dvd-mul_right, mul-le-mul_right, zero-mul, one-mul, one-dvd, div-mul_cancel, mul-dvd-mul_right, dvd_of_mul-dvd-mul_right}
use Rattle.std.proofs.lemmas.Bool.{cases_lt}
use Rattle.std.specs.Int.{IsGcd}
use Rattle.std.proofs.lemmas.Nat.Gcd.{IsGcd-from_zero, IsGcd-swap, IsGcd-from_sub, same_from_IsGcd}

-- there is a greatest common divisor, and it grows with both numbers
record Scaled (a b : ℕ) : Type 0 where
  gcd : ℕ
  here : IsGcd a b gcd
  times : (k : ℕ) → IsGcd (a * k) (b * k) (gcd * k)

sub_mul : (a b k : ℕ) → (a - b) * k ≡ a * k - b * k
sub_mul a b k = rw (mul_comm (a - b) k, mul_comm a k, mul_comm b k) (mul-sub k a b)

swapped : (a b : ℕ) → Scaled a b → Scaled b a
swapped a b s =
    record {
      gcd = s.gcd;
      here = IsGcd-swap a b s.gcd s.here;
      times = λ k. IsGcd-swap (a * k) (b * k) (s.gcd * k) (s.times k);
    }

-- from a difference
after_sub : (a b : ℕ) → b ≤ a → Scaled (a - b) b → Scaled a b
after_sub a b below s =
    record {
      gcd = s.gcd;
      here = IsGcd-from_sub a b s.gcd below s.here;
      times = λ k. IsGcd-from_sub (a * k) (b * k) (s.gcd * k) (mul-le-mul_right k below) (rw sub_mul at (s.times k));
    }

with_zero : (a : ℕ) → Scaled a 0
with_zero a =
    record {
      gcd = a;
      here = IsGcd-from_zero a 0 refl;
      times = λ k. IsGcd-from_zero (a * k) (0 * k) (zero-mul k);
    }

scaled : (most a b : ℕ) → a + b ≤ most → Scaled a b
scaled most a zero bound = with_zero a
scaled most zero (suc b) bound = swapped (suc b) 0 (with_zero (suc b))
scaled zero (suc a) (suc b) bound = absurd (omega arith)
scaled (suc most) (suc a) (suc b) bound =
    elim (cases_lt (suc a) (suc b)) [
      | inl below ↦ swapped (suc b) (suc a) (after_sub (suc b) (suc a) (omega arith) (scaled most (suc b - suc a) (suc a) (omega arith)))
      | inr above ↦ after_sub (suc a) (suc b) above (scaled most (suc a - suc b) (suc b) (omega arith))
    ]

pub divides_other : (a d b : ℕ) → IsGcd a d 1 → d ∣ a * b → d ∣ b
divides_other a d b coprime divides =
    let s : Scaled a d = scaled (a + d) a d (omega arith) in
    let whole : d ∣ s.gcd * b = (s.times b).2 d divides (dvd-mul_right d b) in
    let one : s.gcd * b ≡ b = ap (λ g. g * b) (same_from_IsGcd a d s.gcd 1 s.here coprime) ∙ one-mul b in
    let P : ℕ → Type 0 = λ n. d ∣ n in subst P one whole

-- both divided by their greatest common divisor
pub quotients_coprime : (a b g : ℕ) → 0 < g → IsGcd a b g → IsGcd (a / g) (b / g) 1
quotients_coprime a b g some gcd = (
  one-dvd (a / g),
  one-dvd (b / g),
  λ d p q.
      let P : ℕ → ℕ → Type 0 = λ m n. m ∣ n in
      let over_a : d * g ∣ a = subst (P (d * g)) (div-mul_cancel g gcd.0) (mul-dvd-mul_right d p g) in
      let over_b : d * g ∣ b = subst (P (d * g)) (div-mul_cancel g gcd.1) (mul-dvd-mul_right d q g) in
      let over_g : d * g ∣ 1 * g = subst (P (d * g)) (sym (one-mul g)) (gcd.2 (d * g) over_a over_b) in
      dvd_of_mul-dvd-mul_right d some over_g,
)
