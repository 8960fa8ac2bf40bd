-- The demand of the intervals that end at one tick, from the last beginning on down.
use Rattle.prl_base.proofs.Standard.{◌≡◌, ◌+◌, ◌-◌, ◌*◌, ◌<◌, ◌≤◌, ◌^◌, ℕ, zero, suc, List, length, get_or, set, add-one, inl, inr, refl, sym, ap, ◌∙◌, arith, cases_lt, cases_eq, get_or-set_at}
use Rattle.prl_base.proofs.Standard.{get_or-set_other, nat_tests}
use Rattle.prl_plan.specs.Vocabulary.{HasPlanFacts, sum_below, task_at, PlanView, IsPlan, RunConstants}
use Rattle.prl_plan.proofs.RoundPeriods.{task_is}
use Rattle.prl_overlaps.specs.Vocabulary.{sum_of_jobs, cost_within, demand, cost_at, starts_at}
use Rattle.prl_overlaps.proofs.Sums.{sum_plus, jobs_none}
use Rattle.prl_overlaps.proofs.Within.{inside_or_not, cost_outside}

jobs_parts : (c : RunConstants) (f g h : ℕ → ℕ → ℕ) → ((i n : ℕ) → f i n ≡ g i n + h i n) → sum_of_jobs c f ≡ sum_of_jobs c g + sum_of_jobs c h
jobs_parts c f g h each = sum_plus (λ i. sum_below (f i) (c.jobs i)) (λ i. sum_below (g i) (c.jobs i)) (λ i. sum_below (h i) (c.jobs i)) c.tasks
    (λ i _. sum_plus (f i) (g i) (h i) (c.jobs i) (λ n _. each i n))

module _ (c : RunConstants) (cost : ℕ → ℕ → ℕ) (b : ℕ) where
  one_part : (a i n : ℕ) → cost_within c cost a b i n ≡ cost_within c cost (suc a) b i n + cost_at c cost b a i n
  one_part a i n = grind (arith, nat_tests)

  -- one tick earlier, the jobs that are released there are asked for too
  pub demand_earlier : (a : ℕ) → demand c cost a b ≡ demand c cost (suc a) b + starts_at c cost b a
  demand_earlier a = jobs_parts c (cost_within c cost a b) (cost_within c cost (suc a) b) (cost_at c cost b a) (λ i n. one_part a i n)

-- bounds
pub wcet_bounds : (plan : PlanView) → IsPlan plan → (i : ℕ) → i < length plan.graph.tasks → (1 ≤ (task_at plan.graph i).wcet) × ((task_at plan.graph i).wcet < 2 ^ 31)
wcet_bounds plan is i inside = (task_is plan.graph is.graph i inside).wcet

sum_bound : (f g : ℕ → ℕ) (most n : ℕ) → ((k : ℕ) → k < n → f k ≤ most * g k) → sum_below f n ≤ most * sum_below g n
sum_bound f g most zero each = omega arith
sum_bound f g most (suc n) each = (let rest = sum_bound f g most n (λ k h. each k (omega (arith, h))) in let here = each n (omega arith) in omega (arith, rest, here))

pub count_bound : (f : ℕ → ℕ) (most n : ℕ) → ((k : ℕ) → k < n → f k ≤ most) → sum_below f n ≤ most * n
count_bound f most zero each = omega arith
count_bound f most (suc n) each = (let rest = count_bound f most n (λ k h. each k (omega (arith, h))) in let here = each n (omega arith) in omega (arith, rest, here))

pub tasks_bound : (c : RunConstants) (f : ℕ → ℕ → ℕ) (most n : ℕ) → ((i k : ℕ) → i < n → k < c.jobs i → f i k ≤ most) →
    sum_below (λ i. sum_below (f i) (c.jobs i)) n ≤ most * sum_below c.jobs n
tasks_bound c f most n each = sum_bound (λ i. sum_below (f i) (c.jobs i)) c.jobs most n (λ i below. count_bound (f i) most (c.jobs i) (λ k inside. each i k below inside))

pub part_less : (f : ℕ → ℕ) (m n : ℕ) → m ≤ n → sum_below f m ≤ sum_below f n
part_less f m zero le = (let e : m ≡ 0 = omega (arith, le) in rw e (omega arith))
part_less f m (suc n) le = elim (cases_lt n m) [
  | inl past ↦ (let e : m ≡ suc n = omega (arith, past, le) in rw e (omega arith))
  | inr within ↦ (let rest = part_less f m n within in omega (arith, rest))
]

module _ (c : RunConstants) (cost : ℕ → ℕ → ℕ) (b : ℕ) where
  pub cost_at_small : (most a i n : ℕ) → cost i n ≤ most → cost_at c cost b a i n ≤ most
  cost_at_small most a i n small = grind (arith, nat_tests)

  pub within_small : (most a i n : ℕ) → cost i n ≤ most → cost_within c cost a b i n ≤ most
  within_small most a i n small = grind (arith, nat_tests)

  -- a later beginning asks for no more
  pub demand_falls : (a : ℕ) → demand c cost a b ≤ demand c cost 0 b
  demand_falls zero = omega arith
  demand_falls (suc a) = (let rest = demand_falls a in let e = demand_earlier c cost b a in omega (arith, rest, e))

  -- nothing is asked of an empty interval
  pub nothing_past : HasPlanFacts c → demand c cost (suc b) b ≡ 0
  nothing_past facts = jobs_none c (cost_within c cost (suc b) b) (λ i n job. elim (inside_or_not c (suc b) b i n) [
    | inr out ↦ cost_outside c (suc b) b cost i n out
    | inl is ↦ absurd (let w = facts.window i n job in let late = is.0 in let due = is.1 in omega (arith, w, late, due))
  ])

  -- what `add_task` adds for one job
  cost_here : (a i n : ℕ) → c.release i n ≡ a → c.deadline i n ≤ b → cost_at c cost b a i n ≡ cost i n
  cost_here a i n at due = grind (arith, nat_tests)

  cost_elsewhere : (a i n : ℕ) → (c.release i n ≡ a → c.deadline i n ≤ b → ⊥) → cost_at c cost b a i n ≡ 0
  cost_elsewhere a i n other = grind (arith, nat_tests)

  pub added : (xs : List ℕ) (i n at value : ℕ) → at ≡ c.release i n → at < length xs → c.deadline i n ≤ b → value ≡ get_or xs at 0 + cost i n → (a : ℕ) →
      get_or (set xs at value) a 0 ≡ get_or xs a 0 + cost_at c cost b a i n
  added xs i n at value is inside due sums a = elim (cases_eq a at) [
    | inl same ↦
        (let new : get_or (set xs at value) a 0 ≡ value = get_or-set_at xs at a value 0 same inside in
        let old : get_or xs a 0 ≡ get_or xs at 0 = ap (λ (x : ℕ). get_or xs x 0) same in
        let more = cost_here a i n (sym is ∙ sym same) due in
        omega (arith, new, old, more, sums))
    | inr other ↦
        (let new : get_or (set xs at value) a 0 ≡ get_or xs a 0 = get_or-set_other xs at a value 0 other in
        let none = cost_elsewhere a i n (λ e _. other (sym e ∙ sym is)) in
        omega (arith, new, none))
  ]

  pub not_added : (i n : ℕ) → b < c.deadline i n → (a : ℕ) → cost_at c cost b a i n ≡ 0
  not_added i n late a = cost_elsewhere a i n (λ _ due. omega (arith, due, late))

  -- a step of the search for the greatest beginning
  pub one_earlier : (back so_far start : ℕ) → back ≤ b → so_far ≡ demand c cost (b + 1 - back) b → start ≡ starts_at c cost b (b - back) → so_far + start ≡ demand c cost (b - back) b
  one_earlier back so_far start within is starts =
      let e : b + 1 - back ≡ suc (b - back) = omega (arith, within) in
      let d : demand c cost (b + 1 - back) b ≡ demand c cost (suc (b - back)) b = ap (λ (x : ℕ). demand c cost x b) e in
      omega (arith, is, d, starts, demand_earlier c cost b (b - back))

pub sum_next : (f : ℕ → ℕ) (n : ℕ) → sum_below f (n + 1) ≡ sum_below f n + f n
sum_next f n = rw add-one refl
