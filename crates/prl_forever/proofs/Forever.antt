-- An overloaded interval of some horizon shows one within two hyperperiods after all tasks have started, where the load is no more than a hyperperiod.
use Rattle.prl_base.proofs.Standard.{◌≡◌, ◌+◌, ◌*◌, ◌-◌, ◌<◌, ◌≤◌, ◌↔◌, ◌⊎◌, ℕ, zero, suc, length, inl, inr, ap, arith, cases_lt, mul-le-mul_right}
use Rattle.prl_plan.specs.Vocabulary.{task_at, job_count, IsHorizonJob, constants_of, sum_below, PlanView, IsPlan, release_at, deadline_at}
use Rattle.prl_plan.specs.declared.horizons.Horizon.{Horizon}
use Rattle.prl_plan.proofs.PartsOfSums.{part_of_sum}
use Rattle.prl_plan.proofs.RoundPeriods.{task_is}
use Rattle.prl_overlaps.specs.Demand.{wcets_of, cost_within, demand, IsOverloaded}
use Rattle.prl_overlaps.proofs.Sums.{sum_rises, jobs_none}
use Rattle.prl_overlaps.proofs.Within.{inside, inside_or_not, cost_inside, cost_outside}
use Rattle.prl_tables.specs.Tables.{classes}
use Rattle.prl_forever.specs.Forever.{load_of, AreStartedBy, Serves, ServesForEver}
use Rattle.prl_forever.proofs.Moved.{sum_longer, sum_moved, sum_cut, sum_most_two, sum_pairs, sum_few, sum_many, sum_times}
use Rattle.prl_forever.proofs.Dates.{release_later, deadline_later, window, due_by, released_past}

-- the horizon jobs of a task are counted
abbrev pub AreCounted : PlanView → Type 0
AreCounted plan = (until i n : ℕ) → i < length plan.graph.tasks → 0 < (task_at plan.graph i).clock.period →
    IsHorizonJob plan.graph until i n ↔ (n < job_count (task_at plan.graph i) until)

module _ (plan : PlanView) (is : IsPlan plan) (h : Horizon) where
  -- what a job asks of an interval
  abbrev part : ℕ → ℕ → ℕ → ℕ → ℕ
  part a b i n = cost_within (constants_of plan h) (wcets_of plan) a b i n

  abbrev wcet_at : ℕ → ℕ
  wcet_at i = (task_at plan.graph i).wcet

  abbrev count_of : ℕ → ℕ
  count_of i = job_count (task_at plan.graph i) h.until

  part_in : (a b i n : ℕ) → a ≤ release_at plan i n → deadline_at plan i n ≤ b → part a b i n ≡ wcet_at i
  part_in a b i n late early = cost_inside (constants_of plan h) a b (wcets_of plan) i n (inside (constants_of plan h) a b i n late early)

  cases_part : (a b i n : ℕ) → ((a ≤ release_at plan i n) × (deadline_at plan i n ≤ b) × (part a b i n ≡ wcet_at i)) ⊎ (part a b i n ≡ 0)
  cases_part a b i n = elim (inside_or_not (constants_of plan h) a b i n) [
    | inl its ↦ inl (its.0, its.1, cost_inside (constants_of plan h) a b (wcets_of plan) i n its.2)
    | inr out ↦ inr (cost_outside (constants_of plan h) a b (wcets_of plan) i n out)
  ]

  -- a job that is released before a asks nothing, nor one that is due after b
  part_early : (a b i n : ℕ) → release_at plan i n < a → part a b i n ≡ 0
  part_early a b i n early = elim (cases_part a b i n) [
    | inl its ↦ absurd (let late = its.0 in omega (arith, late, early))
    | inr out ↦ out
  ]

  part_late : (a b i n : ℕ) → b < deadline_at plan i n → part a b i n ≡ 0
  part_late a b i n late = elim (cases_part a b i n) [
    | inl its ↦ absurd (let early = its.1 in omega (arith, late, early))
    | inr out ↦ out
  ]

  part_most : (a b i n : ℕ) → part a b i n ≤ wcet_at i
  part_most a b i n = elim (cases_part a b i n) [
    | inl its ↦ (let e = its.2 in omega (arith, e))
    | inr out ↦ omega (arith, out)
  ]

  -- an interval that is empty is not overloaded
  not_empty : (a b : ℕ) → IsOverloaded (constants_of plan h) (wcets_of plan) a b → a < b
  not_empty a b over = elim (cases_lt a b) [
    | inl some ↦ some
    | inr none ↦ absurd
        (let nothing = jobs_none (constants_of plan h) (cost_within (constants_of plan h) (wcets_of plan) a b) (λ i n job. elim (cases_part a b i n) [
          | inl its ↦ absurd (let w = window plan is i n job.task in let late = its.0 in let early = its.1 in omega (arith, w, late, early, none))
          | inr out ↦ out
        ]) in omega (arith, over, nothing))
  ]

  -- an interval that begins after the first jobs is asked for no more than that a hyperperiod before it
  down_part : (a b i : ℕ) → i < length plan.graph.tasks → ((n : ℕ) → n < classes plan.graph i → release_at plan i n < a + plan.graph.hyper) →
      sum_below (part (a + plan.graph.hyper) (b + plan.graph.hyper) i) (count_of i) ≤ sum_below (part a b i) (count_of i)
  down_part a b i i_in first =
      let longer = sum_longer (part (a + plan.graph.hyper) (b + plan.graph.hyper) i) (count_of i) (classes plan.graph i) in
      let turn : classes plan.graph i + count_of i ≡ count_of i + classes plan.graph i = omega arith in
      let turned = ap (λ (x : ℕ). sum_below (part (a + plan.graph.hyper) (b + plan.graph.hyper) i) x) turn in
      let moved = sum_moved (part (a + plan.graph.hyper) (b + plan.graph.hyper) i) (part a b i) (classes plan.graph i) (count_of i) (λ n.
      elim (cases_part (a + plan.graph.hyper) (b + plan.graph.hyper) i (n + classes plan.graph i)) [
        | inr out ↦ omega (arith, out)
        | inl its ↦
            (let r = release_later plan is i n i_in in let d = deadline_later plan is i n i_in in
            let late = its.0 in let early = its.1 in let e = its.2 in
            let same = part_in a b i n (omega (arith, r, late)) (omega (arith, d, early)) in omega (arith, e, same))
      ]) in
      let none = sum_few (part (a + plan.graph.hyper) (b + plan.graph.hyper) i) 0 (classes plan.graph i)
      (λ n below. (let e = part_early (a + plan.graph.hyper) (b + plan.graph.hyper) i n (first n below) in omega (arith, e))) in
      let zero_is : classes plan.graph i * 0 ≡ 0 = omega arith in
      omega (arith, longer, turned, moved, none, zero_is)

  down : (a b : ℕ) → ((i n : ℕ) → i < length plan.graph.tasks → n < classes plan.graph i → release_at plan i n < a + plan.graph.hyper) →
      demand (constants_of plan h) (wcets_of plan) (a + plan.graph.hyper) (b + plan.graph.hyper) ≤ demand (constants_of plan h) (wcets_of plan) a b
  down a b first = sum_rises (λ i. sum_below (part (a + plan.graph.hyper) (b + plan.graph.hyper) i) (count_of i)) (λ i. sum_below (part a b i) (count_of i))
      (length plan.graph.tasks) (λ i i_in. down_part a b i i_in (λ n below. first i n i_in below))

  -- a hyperperiod more asks no more than the load more
  more_part : (a b i : ℕ) → i < length plan.graph.tasks →
      sum_below (part a (b + plan.graph.hyper) i) (count_of i) ≤ sum_below (part a b i) (count_of i) + classes plan.graph i * wcet_at i
  more_part a b i i_in =
      let longer = sum_longer (part 0 (b + plan.graph.hyper) i) (count_of i) (classes plan.graph i) in
      let turn : classes plan.graph i + count_of i ≡ count_of i + classes plan.graph i = omega arith in
      let turned = ap (λ (x : ℕ). sum_below (part 0 (b + plan.graph.hyper) i) x) turn in
      let moved = sum_moved (part 0 (b + plan.graph.hyper) i) (part 0 b i) (classes plan.graph i) (count_of i) (λ n.
      elim (cases_part 0 (b + plan.graph.hyper) i (n + classes plan.graph i)) [
        | inr out ↦ omega (arith, out)
        | inl its ↦
            (let d = deadline_later plan is i n i_in in let early = its.1 in let e = its.2 in
            let same = part_in 0 b i n (omega arith) (omega (arith, d, early)) in omega (arith, e, same))
      ]) in
      let few = sum_few (part 0 (b + plan.graph.hyper) i) (wcet_at i) (classes plan.graph i) (λ n below. part_most 0 (b + plan.graph.hyper) i n) in
      let pairs = sum_pairs (part a (b + plan.graph.hyper) i) (part 0 b i) (part a b i) (part 0 (b + plan.graph.hyper) i) (count_of i) (λ n below. pair n) in
      omega (arith, longer, turned, moved, few, pairs)
    where
      pair : (n : ℕ) → part a (b + plan.graph.hyper) i n + part 0 b i n ≤ part a b i n + part 0 (b + plan.graph.hyper) i n
      pair n = elim (cases_part 0 b i n) [
        | inl due ↦
            (let early = due.1 in let e = due.2 in let both = part_in 0 (b + plan.graph.hyper) i n (omega arith) (omega (arith, early)) in
            elim (cases_part a (b + plan.graph.hyper) i n) [
              | inl its ↦ (let late = its.0 in let f = its.2 in let same = part_in a b i n late early in omega (arith, e, both, f, same))
              | inr out ↦ omega (arith, out, e, both)
            ])
        | inr not_due ↦
            elim (cases_part a (b + plan.graph.hyper) i n) [
              | inl its ↦ (let early = its.1 in let f = its.2 in let both = part_in 0 (b + plan.graph.hyper) i n (omega arith) early in omega (arith, not_due, f, both))
              | inr out ↦ omega (arith, out, not_due)
            ]
      ]

  more : (a b : ℕ) → demand (constants_of plan h) (wcets_of plan) a (b + plan.graph.hyper) ≤ demand (constants_of plan h) (wcets_of plan) a b + load_of plan
  more a b = sum_most_two (λ i. sum_below (part a (b + plan.graph.hyper) i) (count_of i)) (λ i. sum_below (part a b i) (count_of i))
      (λ i. classes plan.graph i * wcet_at i) (length plan.graph.tasks) (λ i i_in. more_part a b i i_in)

  -- an overloaded interval that ends by two hyperperiods after all tasks have started
  record EarlyOverload (start : ℕ) : Type 0 where
    from : ℕ
    to : ℕ
    over : IsOverloaded (constants_of plan h) (wcets_of plan) from to
    early : to ≤ start + 2 * plan.graph.hyper

  module _ (light : load_of plan ≤ plan.graph.hyper) (start : ℕ) (started : AreStartedBy plan start) where
    first_early : (i n : ℕ) → i < length plan.graph.tasks → n < classes plan.graph i → release_at plan i n < start + plan.graph.hyper
    first_early i n i_in below =
        let one : 1 * classes plan.graph i ≡ classes plan.graph i = omega arith in
        let due = due_by plan is i n 1 start i_in (started i i_in) (omega (arith, below, one)) in
        let w = window plan is i n i_in in
        let self : 1 * plan.graph.hyper ≡ plan.graph.hyper = omega arith in
        omega (arith, due, w, self)

    early_overload : (fuel a b : ℕ) → a + b ≤ fuel → IsOverloaded (constants_of plan h) (wcets_of plan) a b → EarlyOverload start
    early_overload zero a b few over = absurd (let some = not_empty a b over in omega (arith, few, some))
    early_overload (suc fuel) a b few over =
        let some = not_empty a b over in
        let hyper = is.graph.hyper in
        elim (cases_lt b (a + plan.graph.hyper)) [
          | inr long ↦
              (let back : b - plan.graph.hyper + plan.graph.hyper ≡ b = omega (arith, long) in
              let m = more a (b - plan.graph.hyper) in
              let at = ap (λ (x : ℕ). demand (constants_of plan h) (wcets_of plan) a x) back in
              early_overload fuel a (b - plan.graph.hyper) (omega (arith, few, hyper, long)) (omega (arith, m, at, over, light, long)))
          | inl short ↦
              (elim (cases_lt a (start + plan.graph.hyper)) [
                | inl early ↦ record { from = a; to = b; over = over; early = omega (arith, short, early) }
                | inr late ↦
                    (let back : b - plan.graph.hyper + plan.graph.hyper ≡ b = omega (arith, late, some) in
                    let back_from : a - plan.graph.hyper + plan.graph.hyper ≡ a = omega (arith, late) in
                    let d = down (a - plan.graph.hyper) (b - plan.graph.hyper) (λ i n i_in below. (let e = first_early i n i_in below in omega (arith, e, late, back_from))) in
                    let at = ap (λ (x : ℕ). demand (constants_of plan h) (wcets_of plan) (a - plan.graph.hyper + plan.graph.hyper) x) back in
                    let at_from = ap (λ (x : ℕ). demand (constants_of plan h) (wcets_of plan) x b) back_from in
                    early_overload fuel (a - plan.graph.hyper) (b - plan.graph.hyper) (omega (arith, few, hyper, late, some))
                    (omega (arith, d, at, at_from, over, late, some)))
              ])
        ]

-- what is asked up to the end of a horizon, the horizon has
all_there : (plan : PlanView) → IsPlan plan → AreCounted plan → (h other : Horizon) (a b : ℕ) → b ≤ h.until →
    demand (constants_of plan other) (wcets_of plan) a b ≤ demand (constants_of plan h) (wcets_of plan) a b
all_there plan is counted h other a b within =
    sum_rises (λ i. sum_below (part plan is other a b i) (count_of plan is other i)) (λ i. sum_below (part plan is h a b i) (count_of plan is h i))
    (length plan.graph.tasks) (λ i i_in. sum_cut (part plan is h a b i) (count_of plan is h i) (count_of plan is other i) (λ n past.
    part_late plan is h a b i n
    (let r = released_past plan is h.until i n (counted h.until i n i_in (task_is plan.graph is.graph i i_in).period.0) i_in past in
    let w = window plan is i n i_in in omega (arith, r, w, within))))

pub serves_for_ever : (plan : PlanView) → IsPlan plan → AreCounted plan → load_of plan ≤ plan.graph.hyper → (start : ℕ) → AreStartedBy plan start →
    (h : Horizon) → start + 2 * plan.graph.hyper ≤ h.until → Serves plan h → ServesForEver plan
serves_for_ever plan is counted light start started h long serves other a b over =
    let early = early_overload plan is other light start started (a + b) a b (omega arith) over in
    let to = early.early in
    let there = all_there plan is counted h other early.from early.to (omega (arith, to, long)) in
    let asked = early.over in
    serves early.from early.to (omega (arith, there, asked))

pub heavy_overloads : (plan : PlanView) → IsPlan plan → AreCounted plan → plan.graph.hyper < load_of plan → (start : ℕ) → AreStartedBy plan start →
    (h : Horizon) → start + (start + 1) * plan.graph.hyper ≤ h.until →
    IsOverloaded (constants_of plan h) (wcets_of plan) 0 (start + (start + 1) * plan.graph.hyper)
heavy_overloads plan is counted heavy start started h long =
    let many = sum_times (λ i. sum_below (part plan is h 0 (start + (start + 1) * plan.graph.hyper) i) (count_of plan is h i)) (λ i. classes plan.graph i * wcet_at plan is h i)
    (start + 1) (length plan.graph.tasks) (λ i i_in. of_task i i_in) in
    let times = mul-le-mul_right (start + 1) (let g : plan.graph.hyper + 1 ≤ load_of plan = omega (arith, heavy) in g) in
    let e : (plan.graph.hyper + 1) * (start + 1) ≡ (start + 1) * plan.graph.hyper + (start + 1) = omega arith in
    let f : load_of plan * (start + 1) ≡ (start + 1) * load_of plan = omega arith in
    omega (arith, many, times, e, f)
  where
    of_task : (i : ℕ) → i < length plan.graph.tasks →
        (start + 1) * (classes plan.graph i * wcet_at plan is h i) ≤ sum_below (part plan is h 0 (start + (start + 1) * plan.graph.hyper) i) (count_of plan is h i)
    of_task i i_in =
        let first = sum_many (part plan is h 0 (start + (start + 1) * plan.graph.hyper) i) (wcet_at plan is h i) ((start + 1) * classes plan.graph i) (λ n below.
        part_in plan is h 0 (start + (start + 1) * plan.graph.hyper) i n (omega arith) (due_by plan is i n (start + 1) start i_in (started i i_in) below)) in
        let cut = sum_cut (part plan is h 0 (start + (start + 1) * plan.graph.hyper) i) (count_of plan is h i) ((start + 1) * classes plan.graph i) (λ n past.
        part_late plan is h 0 (start + (start + 1) * plan.graph.hyper) i n
        (let r = released_past plan is h.until i n (counted h.until i n i_in (task_is plan.graph is.graph i i_in).period.0) i_in past in
        let w = window plan is i n i_in in omega (arith, r, w, long))) in
        let e : (start + 1) * (classes plan.graph i * wcet_at plan is h i) ≡ (start + 1) * classes plan.graph i * wcet_at plan is h i = omega arith in
        omega (arith, first, cut, e)

-- so a plan that is served for ever has no greater load
pub light_only : (plan : PlanView) → IsPlan plan → AreCounted plan → ServesForEver plan → load_of plan ≤ plan.graph.hyper
light_only plan is counted serves = elim (cases_lt plan.graph.hyper (load_of plan)) [
  | inr light ↦ light
  | inl heavy ↦ absurd
      (let long : Horizon = record { until = sum_below (λ i. (task_at plan.graph i).clock.start) (length plan.graph.tasks) + (sum_below (λ i. (task_at plan.graph i).clock.start) (length plan.graph.tasks) + 1) * plan.graph.hyper; end = 0; jobs = 0; events = 0 } in
      serves long 0 (sum_below (λ i. (task_at plan.graph i).clock.start) (length plan.graph.tasks) + (sum_below (λ i. (task_at plan.graph i).clock.start) (length plan.graph.tasks) + 1) * plan.graph.hyper)
      (heavy_overloads plan is counted heavy (sum_below (λ i. (task_at plan.graph i).clock.start) (length plan.graph.tasks))
      (λ i i_in. part_of_sum (λ i. (task_at plan.graph i).clock.start) (length plan.graph.tasks) i i_in) long (omega arith)))
]
