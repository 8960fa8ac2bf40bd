-- Loads are small; and the greatest start of the first tasks.
use Rattle.prl_base.proofs.Standard.{◌≡◌, ◌+◌, ◌*◌, ◌<◌, ◌≤◌, ◌^◌, ◌⊎◌, ℕ, zero, suc, length, max, inl, inr, ap, arith, cases_lt, mul-le-mul_right, mul-le-mul_left}
use Rattle.prl_plan.specs.Vocabulary.{task_at, sum_below, PlanView, IsPlan}
use Rattle.prl_plan.proofs.DatePeriods.{jobs_are}
use Rattle.prl_plan.proofs.RoundPeriods.{task_is}
use Rattle.prl_tables.specs.Tables.{classes}

module _ (plan : PlanView) (is : IsPlan plan) where
  part_small : (i : ℕ) → i < length plan.graph.tasks → classes plan.graph i * (task_at plan.graph i).wcet ≤ 2 ^ 55
  part_small i inside =
      let task = task_is plan.graph is.graph i inside in
      let hyper = jobs_are plan.graph is.graph i inside in
      let few = is.graph.few_ticks in
      let period = task.period.0 in
      let wcet = task.wcet.1 in
      let many = mul-le-mul_left (classes plan.graph i) (let g : 1 ≤ (task_at plan.graph i).clock.period = omega (arith, period) in g) in
      let one : classes plan.graph i * 1 ≡ classes plan.graph i = omega arith in
      let small : classes plan.graph i ≤ 2 ^ 24 = omega (arith, many, one, hyper, few) in
      let product = mul-le-mul_right (task_at plan.graph i).wcet small in
      omega (arith, product, wcet)

  pub load_small : (n : ℕ) → n ≤ length plan.graph.tasks → sum_below (λ i. classes plan.graph i * (task_at plan.graph i).wcet) n ≤ n * 2 ^ 55
  load_small zero within = omega arith
  load_small (suc n) within = (let rest = load_small n (omega (arith, within)) in let here = part_small n (omega (arith, within)) in omega (arith, rest, here))

  pub load_next : (n : ℕ) → n < length plan.graph.tasks →
      sum_below (λ i. classes plan.graph i * (task_at plan.graph i).wcet) n + classes plan.graph n * (task_at plan.graph n).wcet < 2 ^ 64
  load_next n inside = (let rest = load_small n (omega (arith, inside)) in let here = part_small n inside in let few = is.graph.few_tasks in omega (arith, rest, here, few, inside))

-- of the first n tasks this is the greatest start
pub record IsLatestTo (plan : PlanView) (n start : ℕ) : Type 0 where
  pub by : (i : ℕ) → i < n → (task_at plan.graph i).clock.start ≤ start
  pub attained : (start ≡ 0) ⊎ ((i : ℕ) × (i < n) × (start ≡ (task_at plan.graph i).clock.start))

pub none_to : (plan : PlanView) → IsLatestTo plan 0 0
none_to plan = record { by = λ i below. absurd (omega (arith, below)); attained = inl (omega arith) }

-- with the next task
pub later_to : (plan : PlanView) (n start next : ℕ) → next ≡ max (task_at plan.graph n).clock.start start → IsLatestTo plan n start → IsLatestTo plan (n + 1) next
later_to plan n start next is before = record {
  by = λ i below. elim (cases_lt i n) [
    | inl first ↦ (let rest = before.by i first in omega (arith, rest, is))
    | inr last ↦
        (let same : i ≡ n = omega (arith, below, last) in
        let at = ap (λ (x : ℕ). (task_at plan.graph x).clock.start) same in omega (arith, at, is))
  ];
  attained = elim (cases_lt (task_at plan.graph n).clock.start start) [
    | inl less ↦ elim before.attained [
      | inl zero_is ↦ inl (omega (arith, zero_is, less, is))
      | inr some ↦ inr (some.0, (let b = some.1 in omega (arith, b)), (let e = some.2 in omega (arith, e, less, is)))
    ]
    | inr more ↦ inr (n, omega arith, omega (arith, more, is))
  ];
}

-- there is one
pub latest_to : (plan : PlanView) (n : ℕ) → (start : ℕ) × IsLatestTo plan n start
latest_to plan zero = (0, none_to plan)
latest_to plan (suc n) =
    (let rest = latest_to plan n in
    let next = later_to plan n rest.0 (max (task_at plan.graph n).clock.start rest.0) (omega arith) rest.1 in (
      max (task_at plan.graph n).clock.start rest.0,
      record {
        by = λ i below. next.by i (omega (arith, below));
        attained = elim next.attained [
          | inl none ↦ inl none
          | inr some ↦ inr (some.0, (let b = some.1 in omega (arith, b)), some.2)
        ];
      },
    ))
