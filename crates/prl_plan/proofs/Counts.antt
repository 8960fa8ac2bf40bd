-- How many jobs of a task are released before a date.
use Rattle.prl_base.proofs.Standard.{◌≡◌, ◌+◌, ◌-◌, ◌*◌, ◌/◌, ◌<◌, ◌≤◌, ℕ, inl, inr, arith, pos, ◌+ℤ◌, ◌*ℤ◌, ◌<ℤ◌, length, lt-div-mul-add, div-mul-le_self, mul-le-mul_right, cases_lt, ints}
use Rattle.prl_plan.specs.Vocabulary.{TaskGraph, task_at, job_count, IsHorizonJob}

-- number n is below the count of multiples of T, from s on, that are below `until`
pub count_below : (s T until n : ℕ) → 1 ≤ T → n < (until - s + (T - 1)) / T → s + n * T < until
count_below s T until n some h =
    let x : ℕ = until - s + (T - 1) in
    let e : (n + 1) * T ≡ n * T + T = omega arith in
    omega (arith, mul-le-mul_right T (let g : n + 1 ≤ (x / T) = omega arith in g), div-mul-le_self x T, e)

pub below_count : (s T until n : ℕ) → 1 ≤ T → s + n * T < until → n < (until - s + (T - 1)) / T
below_count s T until n some h =
    let x : ℕ = until - s + (T - 1) in
    let q : ℕ = x / T in
    elim (cases_lt n q) [
      | inl below ↦ below
      | inr above ↦ absurd
          (let over : x < q * T + T = lt-div-mul-add some in
          omega (arith, over, mul-le-mul_right T above))
    ]

-- a task's horizon jobs are those with a number below their count
pub IsHorizonJob_count : (graph : TaskGraph) (until i n : ℕ) → i < length graph.tasks → 1 ≤ (task_at graph i).clock.period →
    n < job_count (task_at graph i) until → IsHorizonJob graph until i n
IsHorizonJob_count graph until i n task some h =
    let c = (task_at graph i).clock in
    record { task = task; early = omega (arith, ints, count_below c.start c.period until n some h) }

pub job_count_horizon : (graph : TaskGraph) (until i n : ℕ) → 1 ≤ (task_at graph i).clock.period →
    IsHorizonJob graph until i n → n < job_count (task_at graph i) until
job_count_horizon graph until i n some is =
    let c = (task_at graph i).clock in
    let below : c.start + n * c.period < until = omega (arith, ints, is.early) in
    below_count c.start c.period until n some below
