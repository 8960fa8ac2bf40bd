-- Quotients rounded up.
use Rattle.prl_base.proofs.Standard.{◌≡◌, ◌+◌, ◌*◌, ◌/◌, ◌%◌, ◌<◌, ◌≤◌, ℕ, inl, inr, ap, arith, div_ceil, mul-le-mul_left, cases_lt}

-- the least whole number whose product is not below
pub ceil_most : (p n k : ℕ) → 1 ≤ k → p ≤ k * n → div_ceil p k ≤ n
ceil_most p n k some h =
    let e : k * (p / k) + p % k ≡ p = omega arith in
    elim (cases_lt n (p / k)) [
      | inl below ↦ absurd
          (let d : k * (n + 1) ≡ k * n + k = omega arith in
          omega (arith, e, mul-le-mul_left k (let g : n + 1 ≤ p / k = omega arith in g), d, some, h))
      | inr above ↦
          elim (cases_lt (p / k) n) [
            | inl under ↦ omega (arith, under)
            | inr over ↦
                (let same : p / k ≡ n = omega (arith, above, over) in
                omega (arith, e, ap (λ (x : ℕ). k * x) same, h, same))
          ]
    ]

pub ceil_least : (p n k : ℕ) → 1 ≤ k → div_ceil p k ≤ n → p ≤ k * n
ceil_least p n k some h =
    let e : k * (p / k) + p % k ≡ p = omega arith in
    let b : p % k < k = omega (arith, some) in
    elim (cases_lt (p / k) n) [
      | inl below ↦
          (let d : k * (p / k + 1) ≡ k * (p / k) + k = omega arith in
          omega (arith, e, b, mul-le-mul_left k (let g : p / k + 1 ≤ n = omega arith in g), d))
      | inr above ↦
          (let same : p / k ≡ n = omega (arith, above, h) in
          let none : p % k ≡ 0 = omega (arith, above, h) in
          omega (arith, e, ap (λ (x : ℕ). k * x) same, none))
    ]
