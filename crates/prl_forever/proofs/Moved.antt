-- Sums of which the parts are moved.
use Rattle.prl_base.proofs.Standard.{◌≡◌, ◌+◌, ◌*◌, ◌<◌, ◌≤◌, ℕ, zero, suc, ap, arith, inl, inr, cases_lt}
use Rattle.prl_plan.specs.Horizons.{sum_below}

-- a longer sum is no less
pub sum_longer : (f : ℕ → ℕ) (n m : ℕ) → sum_below f n ≤ sum_below f (m + n)
sum_longer f n zero = (let e : 0 + n ≡ n = omega arith in let s = ap (λ (x : ℕ). sum_below f x) e in omega (arith, s))
sum_longer f n (suc m) = (let e : suc m + n ≡ suc (m + n) = omega arith in let s = ap (λ (x : ℕ). sum_below f x) e in omega (arith, s, sum_longer f n m))

-- behind the first k parts come parts that are no greater than others
pub sum_moved : (f g : ℕ → ℕ) (k m : ℕ) → ((n : ℕ) → f (n + k) ≤ g n) → sum_below f (m + k) ≤ sum_below f k + sum_below g m
sum_moved f g k zero moved = (let e : 0 + k ≡ k = omega arith in let s = ap (λ (x : ℕ). sum_below f x) e in omega (arith, s))
sum_moved f g k (suc m) moved =
    (let e : suc m + k ≡ suc (m + k) = omega arith in let s = ap (λ (x : ℕ). sum_below f x) e in
    let rest = sum_moved f g k m moved in let here = moved m in omega (arith, s, rest, here))

-- from n on there is nothing
pub sum_cut : (f : ℕ → ℕ) (n m : ℕ) → ((k : ℕ) → n ≤ k → f k ≡ 0) → sum_below f m ≤ sum_below f n
sum_cut f n zero none = omega arith
sum_cut f n (suc m) none = elim (cases_lt m n) [
  | inl below ↦ (let up = go n (suc m) below in up)
  | inr past ↦ (let rest = sum_cut f n m none in let here = none m past in omega (arith, rest, here))
]
  where
    go : (n m : ℕ) → m ≤ n → sum_below f m ≤ sum_below f n
    go zero m h = (let e : m ≡ 0 = omega (arith, h) in let s = ap (λ (x : ℕ). sum_below f x) e in omega (arith, s))
    go (suc n) m h = elim (cases_lt n m) [
      | inl all ↦ (let e : m ≡ suc n = omega (arith, h, all) in let s = ap (λ (x : ℕ). sum_below f x) e in omega (arith, s))
      | inr less ↦ (let rest = go n m less in omega (arith, rest))
    ]

-- no part is greater than two others together
pub sum_most_two : (f g h : ℕ → ℕ) (n : ℕ) → ((k : ℕ) → k < n → f k ≤ g k + h k) → sum_below f n ≤ sum_below g n + sum_below h n
sum_most_two f g h zero each = omega arith
sum_most_two f g h (suc n) each =
    (let rest = sum_most_two f g h n (λ k below. each k (omega (arith, below))) in let here = each n (omega arith) in omega (arith, rest, here))

-- nor two parts together than two others
pub sum_pairs : (f x g y : ℕ → ℕ) (n : ℕ) → ((k : ℕ) → k < n → f k + x k ≤ g k + y k) → sum_below f n + sum_below x n ≤ sum_below g n + sum_below y n
sum_pairs f x g y zero each = omega arith
sum_pairs f x g y (suc n) each =
    (let rest = sum_pairs f x g y n (λ k below. each k (omega (arith, below))) in let here = each n (omega arith) in omega (arith, rest, here))

-- no part is greater than c
pub sum_few : (f : ℕ → ℕ) (c n : ℕ) → ((k : ℕ) → k < n → f k ≤ c) → sum_below f n ≤ n * c
sum_few f c zero each = omega arith
sum_few f c (suc n) each =
    (let rest = sum_few f c n (λ k below. each k (omega (arith, below))) in let here = each n (omega arith) in
    let e : suc n * c ≡ n * c + c = omega arith in omega (arith, rest, here, e))

-- n parts are c, and perhaps more
pub sum_many : (f : ℕ → ℕ) (c n : ℕ) → ((k : ℕ) → k < n → f k ≡ c) → n * c ≤ sum_below f n
sum_many f c zero each = (let e : 0 * c ≡ 0 = omega arith in omega (arith, e))
sum_many f c (suc n) each =
    (let rest = sum_many f c n (λ k below. each k (omega (arith, below))) in let here = each n (omega arith) in
    let e : suc n * c ≡ n * c + c = omega arith in omega (arith, rest, here, e))

pub sum_times : (f g : ℕ → ℕ) (q n : ℕ) → ((k : ℕ) → k < n → q * g k ≤ f k) → q * sum_below g n ≤ sum_below f n
sum_times f g q zero each = (let e : q * 0 ≡ 0 = omega arith in omega (arith, e))
sum_times f g q (suc n) each =
    (let rest = sum_times f g q n (λ k below. each k (omega (arith, below))) in let here = each n (omega arith) in
    let e : q * (sum_below g n + g n) ≡ q * sum_below g n + q * g n = omega arith in omega (arith, rest, here, e))
