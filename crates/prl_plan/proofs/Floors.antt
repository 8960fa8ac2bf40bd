-- Quotients of whole numbers, rounded down.
use Rattle.prl_base.proofs.Standard.{◌≡◌, ◌+◌, ◌-◌, ◌*◌, ◌/◌, ◌%◌, ◌<◌, ◌≤◌, ◌↔◌, ℕ, zero, suc, refl, arith, ℤ, pos, negsuc, ◌+ℤ◌, ◌*ℤ◌, ◌≤ℤ◌, neg_ℤ, ints, by_lt_z, zero-*ℤ, suc_ℤ-*ℤ, pos-*ℤ-pos}
use Rattle.prl_base.proofs.Standard.{pos-*ℤ-negsuc}
use lib.IntN.{suc_ℤ, pred_ℤ}
use Rattle.prl_base.specs.Operators.{floor_div}

pub suc_is : (n : ℤ) → suc_ℤ n ≡ n +ℤ pos 1
suc_is (pos n) = omega (arith, ints)
suc_is (negsuc zero) = refl
suc_is (negsuc (suc n)) = omega (arith, ints)

pub pred_is : (n : ℤ) → pred_ℤ n +ℤ pos 1 ≡ n
pred_is (pos zero) = refl
pred_is (pos (suc n)) = omega (arith, ints)
pred_is (negsuc n) = omega (arith, ints)

-- a product with a natural number keeps the order
pub mono : (k : ℕ) (a b : ℤ) → a ≤ℤ b → (pos k *ℤ a) ≤ℤ (pos k *ℤ b)
mono zero a b h = rw (zero-*ℤ a, zero-*ℤ b) (omega (arith, ints))
mono (suc k) a b h = rw (suc_ℤ-*ℤ (pos k) a, suc_ℤ-*ℤ (pos k) b) (omega (arith, ints, mono k a b h, h))

mul_next : (k : ℕ) (a : ℤ) → pos k *ℤ (a +ℤ pos 1) ≡ (pos k *ℤ a) +ℤ pos k
mul_next zero a = rw (zero-*ℤ (a +ℤ pos 1), zero-*ℤ a) refl
mul_next (suc k) a = rw (suc_ℤ-*ℤ (pos k) (a +ℤ pos 1), suc_ℤ-*ℤ (pos k) a) (omega (arith, ints, mul_next k a))

mul_neg : (k : ℕ) (a : ℤ) → pos k *ℤ neg_ℤ a ≡ neg_ℤ (pos k *ℤ a)
mul_neg zero a = rw (zero-*ℤ (neg_ℤ a), zero-*ℤ a) refl
mul_neg (suc k) a = rw (suc_ℤ-*ℤ (pos k) (neg_ℤ a), suc_ℤ-*ℤ (pos k) a) (omega (arith, ints, mul_neg k a))

-- what is left of n after the quotient
floor_rest : (n : ℤ) (k : ℕ) → 1 ≤ k → (r : ℕ) × (r < k) × (n ≡ (pos k *ℤ floor_div n k) +ℤ pos r)
floor_rest (pos n) k some = (n % k, omega arith, (let e : k * (n / k) + n % k ≡ n = omega arith in omega (arith, ints, e, pos-*ℤ-pos k (n / k))))
floor_rest (negsuc n) k some = (
  k - 1 - n % k,
  omega arith,
  (let e : k * (n / k) + n % k ≡ n = omega arith in
      let s : k * suc (n / k) ≡ k * (n / k) + k = omega arith in
      let b : n % k < k = omega arith in
      omega (arith, ints, e, s, b, pos-*ℤ-negsuc k (n / k))),
)

pub floor_least : (n x : ℤ) (k : ℕ) → 1 ≤ k → (x ≤ℤ floor_div n k) ↔ ((pos k *ℤ x) ≤ℤ n)
floor_least n x k some =
    let rest = floor_rest n k some in
    let q : ℤ = floor_div n k in (
      (λ h. omega (arith, ints, mono k x q h, rest.2)),
      (λ h. by_lt_z q x
          (λ below. (absurd (omega (arith, ints, mono k (q +ℤ pos 1) x (omega (arith, ints, below)), mul_next k q, h, rest.1, rest.2))))
          (λ above. above)),
    )
