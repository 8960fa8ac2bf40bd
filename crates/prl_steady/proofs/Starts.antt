-- The greatest start of a task, and that an overload is the sum of the tasks' parts in it.
use Rattle.prl_base.proofs.Standard.{◌≡◌, ◌+◌, ◌*◌, ◌/◌, ◌%◌, ◌^◌, ◌<◌, ◌≤◌, ◌⊎◌, ℕ, zero, suc, List, [], ◌∷◌, length, max, min, Option, Some, None, inl, inr, refl, sym, ◌∙◌, ap, arith, cases_lt, slice_get, slice_index_or, slice_get-get_or, div_ceil_times, mul-le-mul_left}
use Rattle.prl_plan.specs.declared.graphs.Task.{Task}
use Rattle.prl_plan.specs.Vocabulary.{IsPlan, RunConstants, constants_of, no_task, task_at, sum_below, PlanView}
use Rattle.prl_overlaps.specs.Demand.{cost_within, demand, wcets_of}
use Rattle.prl_overlaps.proofs.Within.{cost_inside, cost_outside, inside_or_not}
use Rattle.prl_table.specs.Made.{greatest_start}
use Rattle.prl_forever.specs.Answers.{IsAnswer}
use Rattle.prl_forever.specs.Forever.{IsLatestStart}
use Rattle.prl_forever.specs.declared.deciding.ForEver.TheVariants as answers
use Rattle.prl_steady.specs.Shares.{horizon_to, sum_within, told_until}

by_greatest : (tasks : List Task) (i : ℕ) → i < length tasks → (slice_index_or tasks i no_task).clock.start ≤ greatest_start tasks
by_greatest [] i inside = absurd (omega (arith, inside))
by_greatest (first ∷ rest) zero inside = omega arith
by_greatest (first ∷ rest) (suc i) inside = (let r = by_greatest rest i (omega (arith, inside)) in omega (arith, r))

greatest_is : (tasks : List Task) → (greatest_start tasks ≡ 0) ⊎ ((i : ℕ) × (i < length tasks) × (greatest_start tasks ≡ (slice_index_or tasks i no_task).clock.start))
greatest_is [] = inl refl
greatest_is (first ∷ rest) = elim (cases_lt first.clock.start (greatest_start rest)) [
  | inr more ↦ inr (0, omega arith, omega (arith, more))
  | inl less ↦ elim (greatest_is rest) [
    | inl none ↦ absurd (omega (arith, none, less))
    | inr some ↦ inr (suc some.0, (let b = some.1 in omega (arith, b)), (let e = some.2 in omega (arith, e, less)))
  ]
]

pub latest_is : (plan : PlanView) (start : ℕ) → IsLatestStart plan start → start ≡ greatest_start plan.graph.tasks
latest_is plan start latest =
    let up : start ≤ greatest_start plan.graph.tasks = elim latest.attained [
      | inl none ↦ omega (arith, none)
      | inr some ↦ (let b = by_greatest plan.graph.tasks some.0 some.1 in let e = some.2 in omega (arith, b, e))
    ] in
    let down : greatest_start plan.graph.tasks ≤ start = elim (greatest_is plan.graph.tasks) [
      | inl none ↦ omega (arith, none)
      | inr some ↦ (let b = latest.by some.0 some.1 in let e = some.2 in omega (arith, b, e))
    ] in
    omega (arith, up, down)

pub shares_sum : (plan : PlanView) (from to asked : ℕ) → IsAnswer plan (answers.Overload from to asked) →
    sum_below (sum_within plan (wcets_of plan) (told_until plan) from to) (length plan.graph.tasks) ≡ asked
shares_sum plan from to asked answer =
    let start = latest_is plan answer.1 answer.2 in
    let until : answer.3.until ≡ told_until plan = (let e = answer.5 in omega (arith, e, start)) in
    sym (answer.6.1 ∙ ap (λ (u : ℕ). demand (constants_of plan (horizon_to u)) (wcets_of plan) from to) until)

small_starts : (tasks : List Task) → ((i : ℕ) (task : Task) → slice_get tasks i ≡ Some task → task.clock.start < 2 ^ 31) → greatest_start tasks < 2 ^ 31
small_starts [] small = omega arith
small_starts (task ∷ tasks) small =
    (let here = small 0 task refl in let rest = small_starts tasks (λ i t at. small (suc i) t at) in omega (arith, here, rest))

pub starts_small : (plan : PlanView) → IsPlan plan → greatest_start plan.graph.tasks < 2 ^ 31
starts_small plan is = small_starts plan.graph.tasks (λ i task at. (is.graph.tasks i task at).start)

pub cut_small : (start hyper b : ℕ) → 1 ≤ hyper → hyper < 2 ^ 31 → start < 2 ^ 31 → b ≡ start / hyper + min 1 (start % hyper) → ((1 + b) * hyper < 2 ^ 33) × (b < 2 ^ 32)
cut_small start hyper b some few early is =
    (let up = (div_ceil_times start hyper some).1 in
    let times = ap (λ (x : ℕ). x * hyper) is in
    let whole : (1 + b) * hyper ≡ hyper + b * hyper = omega arith in
    let least = mul-le-mul_left b some in
    (omega (arith, up, times, whole, few, early), omega (arith, up, times, least, few, early)))

-- what jobs of one cost cost together
pub times_each : (f g : ℕ → ℕ) (w n : ℕ) → ((k : ℕ) → k < n → f k ≡ g k * w) → sum_below f n ≡ sum_below g n * w
times_each f g w zero each = (let none : 0 * w ≡ 0 = omega arith in sym none)
times_each f g w (suc n) each =
    (let rest = times_each f g w n (λ k below. each k (omega (arith, below))) in let here = each n (omega arith) in
    let split : (sum_below g n + g n) * w ≡ sum_below g n * w + g n * w = omega arith in omega (arith, rest, here, split))

pub cost_times : (c : RunConstants) (plan : PlanView) (a b i n : ℕ) → cost_within c (wcets_of plan) a b i n ≡ cost_within c (λ i n. 1) a b i n * (task_at plan.graph i).wcet
cost_times c plan a b i n = elim (inside_or_not c a b i n) [
  | inl in_it ↦
      (let e = cost_inside c a b (wcets_of plan) i n in_it.2 in let f = cost_inside c a b (λ i n. 1) i n in_it.2 in
      let g = ap (λ (x : ℕ). x * (task_at plan.graph i).wcet) f in
      let one : 1 * (task_at plan.graph i).wcet ≡ (task_at plan.graph i).wcet = omega arith in omega (arith, e, g, one))
  | inr out ↦
      (let e = cost_outside c a b (wcets_of plan) i n out in let f = cost_outside c a b (λ i n. 1) i n out in
      let g = ap (λ (x : ℕ). x * (task_at plan.graph i).wcet) f in
      let none : 0 * (task_at plan.graph i).wcet ≡ 0 = omega arith in omega (arith, e, g, none))
]
