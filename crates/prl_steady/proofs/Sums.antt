-- Sums of which the parts are moved.
use Rattle.prl_base.proofs.Standard.{◌≡◌, ◌+◌, ◌*◌, ◌<◌, ◌≤◌, ℕ, zero, suc, ap, arith}
use Rattle.prl_plan.specs.Horizons.{sum_below}

-- a longer sum is no less
pub sum_longer : (f : ℕ → ℕ) (n m : ℕ) → sum_below f n ≤ sum_below f (m + n)
sum_longer f n zero = (let e : 0 + n ≡ n = omega arith in let s = ap (λ (x : ℕ). sum_below f x) e in omega (arith, s))
sum_longer f n (suc m) = (let e : suc m + n ≡ suc (m + n) = omega arith in let s = ap (λ (x : ℕ). sum_below f x) e in omega (arith, s, sum_longer f n m))

-- behind the first k parts come parts that are no greater than others
pub sum_moved : (f g : ℕ → ℕ) (k m : ℕ) → ((n : ℕ) → f (n + k) ≤ g n) → sum_below f (m + k) ≤ sum_below f k + sum_below g m
sum_moved f g k zero moved = (let e : 0 + k ≡ k = omega arith in let s = ap (λ (x : ℕ). sum_below f x) e in omega (arith, s))
sum_moved f g k (suc m) moved =
    (let e : suc m + k ≡ suc (m + k) = omega arith in let s = ap (λ (x : ℕ). sum_below f x) e in
    let rest = sum_moved f g k m moved in let here = moved m in omega (arith, s, rest, here))

-- no part is greater than two others together
pub sum_most_two : (f g h : ℕ → ℕ) (n : ℕ) → ((k : ℕ) → k < n → f k ≤ g k + h k) → sum_below f n ≤ sum_below g n + sum_below h n
sum_most_two f g h zero each = omega arith
sum_most_two f g h (suc n) each =
    (let rest = sum_most_two f g h n (λ k below. each k (omega (arith, below))) in let here = each n (omega arith) in omega (arith, rest, here))

-- no part is greater than c
pub sum_few : (f : ℕ → ℕ) (c n : ℕ) → ((k : ℕ) → k < n → f k ≤ c) → sum_below f n ≤ n * c
sum_few f c zero each = omega arith
sum_few f c (suc n) each =
    (let rest = sum_few f c n (λ k below. each k (omega (arith, below))) in let here = each n (omega arith) in
    let e : suc n * c ≡ n * c + c = omega arith in omega (arith, rest, here, e))
