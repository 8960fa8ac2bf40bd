-- Sums over the horizon jobs, compared part by part.
use Rattle.prl_base.proofs.Standard.{◌≡◌, ◌+◌, ◌<◌, ◌≤◌, ℕ, zero, suc, inl, inr, refl, subst, arith, cases_lt}
use Rattle.prl_plan.specs.Vocabulary.{IsJob, sum_below, RunConstants}
use Rattle.prl_overlaps.specs.Demand.{sum_of_jobs}

-- no part is greater, so the sum is not
pub sum_rises : (f g : ℕ → ℕ) (n : ℕ) → ((k : ℕ) → k < n → f k ≤ g k) → sum_below f n ≤ sum_below g n
sum_rises f g zero each = omega arith
sum_rises f g (suc n) each =
    let rest = sum_rises f g n (λ k below. each k (omega (arith, below))) in
    let here = each n (omega arith) in
    omega (arith, rest, here)

-- and one is less
pub sum_grows : (f g : ℕ → ℕ) (n i : ℕ) → ((k : ℕ) → k < n → f k ≤ g k) → i < n → f i < g i → sum_below f n < sum_below g n
sum_grows f g zero i each below less = absurd (omega (arith, below))
sum_grows f g (suc n) i each below less =
    let here = each n (omega arith) in
    elim (cases_lt i n) [
      | inl inside ↦ (let rest = sum_grows f g n i (λ k h. each k (omega (arith, h))) inside less in omega (arith, rest, here))
      | inr past ↦ (let same : i ≡ n = omega (arith, below, past) in
          let last : f n < g n = subst (λ (x : ℕ). f x < g x) same less in
          let rest = sum_rises f g n (λ k h. each k (omega (arith, h))) in
          omega (arith, rest, last))
    ]

-- at most one part is greater, and by at most 1
pub sum_by_one : (f g : ℕ → ℕ) (n i : ℕ) → ((k : ℕ) → k < n → (k ≡ i → ⊥) → g k ≤ f k) → (i < n → g i ≤ f i + 1) → sum_below g n ≤ sum_below f n + 1
sum_by_one f g zero i each one = omega arith
sum_by_one f g (suc n) i each one =
    elim (cases_lt i n) [
      | inl inside ↦
          (let rest = sum_by_one f g n i (λ k h other. each k (omega (arith, h)) other) (λ h. one (omega (arith, h))) in
          let here = each n (omega arith) (λ same. omega (arith, same, inside)) in
          omega (arith, rest, here))
      | inr past ↦
          (let rest = sum_rises g f n (λ k h. each k (omega (arith, h)) (λ same. omega (arith, same, h, past))) in
          elim (cases_lt n i) [
            | inl out ↦ (let here = each n (omega arith) (λ same. omega (arith, same, out)) in omega (arith, rest, here))
            | inr reached ↦ (let same : i ≡ n = omega (arith, past, reached) in
                let here : g n ≤ f n + 1 = subst (λ (x : ℕ). g x ≤ f x + 1) same (one (omega (arith, same))) in
                omega (arith, rest, here))
          ])
    ]

-- a sum of two parts each
pub sum_plus : (f g h : ℕ → ℕ) (n : ℕ) → ((k : ℕ) → k < n → f k ≡ g k + h k) → sum_below f n ≡ sum_below g n + sum_below h n
sum_plus f g h zero each = refl
sum_plus f g h (suc n) each =
    let rest = sum_plus f g h n (λ k below. each k (omega (arith, below))) in
    let here = each n (omega arith) in
    omega (arith, rest, here)

sum_none : (f : ℕ → ℕ) (n : ℕ) → ((k : ℕ) → k < n → f k ≡ 0) → sum_below f n ≡ 0
sum_none f zero each = refl
sum_none f (suc n) each = (let rest = sum_none f n (λ k h. each k (omega (arith, h))) in let here = each n (omega arith) in omega (arith, rest, here))

pub jobs_none : (c : RunConstants) (f : ℕ → ℕ → ℕ) → ((i n : ℕ) → IsJob c i n → f i n ≡ 0) → sum_of_jobs c f ≡ 0
jobs_none c f each = sum_none (λ i. sum_below (f i) (c.jobs i)) c.tasks (λ i task. sum_none (f i) (c.jobs i) (λ n job. each i n (record { task = task; job = job })))

module _ (c : RunConstants) (f g : ℕ → ℕ → ℕ) where
  -- the same over the horizon jobs
  pub jobs_rise : ((i n : ℕ) → IsJob c i n → f i n ≤ g i n) → sum_of_jobs c f ≤ sum_of_jobs c g
  jobs_rise each = sum_rises (λ i. sum_below (f i) (c.jobs i)) (λ i. sum_below (g i) (c.jobs i)) c.tasks (λ i task.
      sum_rises (f i) (g i) (c.jobs i) (λ n job. each i n (record { task = task; job = job })))

  pub jobs_grow : ((i n : ℕ) → IsJob c i n → f i n ≤ g i n) → (j k : ℕ) → IsJob c j k → f j k < g j k → sum_of_jobs c f < sum_of_jobs c g
  jobs_grow each j k is less = sum_grows (λ i. sum_below (f i) (c.jobs i)) (λ i. sum_below (g i) (c.jobs i)) c.tasks j
      (λ i task. sum_rises (f i) (g i) (c.jobs i) (λ n job. each i n (record { task = task; job = job })))
      is.task
      (sum_grows (f j) (g j) (c.jobs j) k (λ n job. each j n (record { task = is.task; job = job })) is.job less)

  pub jobs_by_one : (j k : ℕ) → ((i n : ℕ) → IsJob c i n → (i ≡ j → n ≡ k → ⊥) → g i n ≤ f i n) → (IsJob c j k → g j k ≤ f j k + 1) →
      sum_of_jobs c g ≤ sum_of_jobs c f + 1
  jobs_by_one j k each one = sum_by_one (λ i. sum_below (f i) (c.jobs i)) (λ i. sum_below (g i) (c.jobs i)) c.tasks j
      (λ i task other. sum_rises (g i) (f i) (c.jobs i) (λ n job. each i n (record { task = task; job = job }) (λ same _. other same)))
      (λ task. sum_by_one (f j) (g j) (c.jobs j) k (λ n job other. each j n (record { task = task; job = job }) (λ _ same. other same))
      (λ job. one (record { task = task; job = job })))
