-- A sum is no less than each of its parts.
use Rattle.prl_base.proofs.Standard.{◌≡◌, ◌≢◌, ◌<◌, ◌≤◌, ℕ, zero, suc, inl, inr, sym, ap, subst, arith, cases_eq, cases_lt}
use Rattle.prl_plan.specs.Horizons.{sum_below}

pub part_of_sum : (f : ℕ → ℕ) (n i : ℕ) → i < n → f i ≤ sum_below f n
part_of_sum f zero i below = absurd (omega (arith, below))
part_of_sum f (suc n) i below =
    elim (cases_lt i n) [
      | inl less ↦ omega (arith, part_of_sum f n i less)
      | inr past ↦ (let same : i ≡ n = omega (arith, below, past) in omega (arith, ap f same))
    ]

pub sum_most : (f g : ℕ → ℕ) (n : ℕ) → ((j : ℕ) → j < n → f j ≤ g j) → sum_below f n ≤ sum_below g n
sum_most f g zero most = omega arith
sum_most f g (suc n) most = omega (arith, sum_most f g n (λ j below. most j (omega (arith, below))), most n (omega arith))

-- one number grows, and none falls
pub sum_grows : (f g : ℕ → ℕ) (i n : ℕ) → i < n → f i < g i → ((j : ℕ) → j ≢ i → f j ≤ g j) → sum_below f n < sum_below g n
sum_grows f g i zero inside grows most = absurd (omega (arith, inside))
sum_grows f g i (suc n) inside grows most = elim (cases_eq n i) [
  | inl last ↦
      omega (arith, sum_most f g n (λ j below. most j (λ e. omega (arith, e, below, last))), subst (λ (k : ℕ). f k < g k) (sym last) grows)
  | inr other ↦
      omega (arith, sum_grows f g i n (omega (arith, inside, other)) grows most, most n other)
]
