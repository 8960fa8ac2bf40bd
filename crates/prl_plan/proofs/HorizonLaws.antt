-- A plan has one horizon up to a date, or passes one limit.
use Rattle.prl_base.proofs.Standard.{◌≡◌, ◌⊎◌, ◌<◌, ◌^◌, ℕ, zero, suc, ◌+◌, ◌≤◌, length, refl, sym, ap, ◌∙◌, inl, inr, subst, arith, cases_lt, slice_get-get_or}
use Rattle.prl_base.specs.declared.limits.Limit.{Limit}
use Rattle.prl_base.specs.declared.limits.What.{What}
use Rattle.prl_base.specs.declared.limits.What.TheVariants as whats
use Rattle.prl_plan.specs.Vocabulary.{Horizon, MAX_JOBS, MAX_EVENTS, IsWellFormed, no_task, task_at, job_count, IsHorizonJob, PlanView, deadline_at, IsEnd, IsHorizon, IsPast, IsPastLimit, jobs_up_to}
use Rattle.prl_plan.specs.Vocabulary.{actions_up_to}
use Rattle.prl_plan.proofs.Counts.{IsHorizonJob_count, job_count_horizon}

not_above : (plan : PlanView) (until a b : ℕ) → IsEnd plan until a → IsEnd plan until b → a ≤ b
not_above plan until a b ha hb =
    elim ha.attained [
      | inl e ↦ omega arith
      | inr h ↦ let below = hb.above h.0 h.1 h.2 in let e = h.3 in omega arith
    ]

one_end : (plan : PlanView) (until a b : ℕ) → IsEnd plan until a → IsEnd plan until b → a ≡ b
one_end plan until a b ha hb =
    let p = not_above plan until a b ha hb in
    let q = not_above plan until b a hb ha in
    omega arith

-- horizons and limits that agree in each field are the same
abbrev horizon_with : ℕ → ℕ → ℕ → ℕ → Horizon
horizon_with until end jobs events = record { until = until; end = end; jobs = jobs; events = events }

same_fields : (a b : Horizon) → a.until ≡ b.until → a.end ≡ b.end → a.jobs ≡ b.jobs → a.events ≡ b.events → a ≡ b
same_fields a b until end jobs events =
    ap (λ (x : ℕ). horizon_with x a.end a.jobs a.events) until ∙ ap (λ (x : ℕ). horizon_with b.until x a.jobs a.events) end
    ∙ ap (λ (x : ℕ). horizon_with b.until b.end x a.events) jobs ∙ ap (λ (x : ℕ). horizon_with b.until b.end b.jobs x) events

abbrev limit_with : What → ℕ → Limit
limit_with what found = record { what = what; found = found }

same_limit : (a b : Limit) → a.what ≡ b.what → a.found ≡ b.found → a ≡ b
same_limit a b what found = ap (λ (x : What). limit_with x a.found) what ∙ ap (λ (x : ℕ). limit_with b.what x) found

-- there is one horizon
pub one_horizon : (plan : PlanView) (until : ℕ) (a b : Horizon) → IsHorizon plan a → IsHorizon plan b → a.until ≡ until → b.until ≡ until → a ≡ b
one_horizon plan until a b ha hb ea eb =
    let until_is : a.until ≡ b.until = ea ∙ sym eb in
    let end_is : a.end ≡ b.end = one_end plan b.until a.end b.end (subst (λ (u : ℕ). IsEnd plan u a.end) until_is ha.end) hb.end in
    let events_is : a.events ≡ b.events = ha.events ∙ ap (λ u. actions_up_to plan u + a.end) until_is ∙ ap (λ e. actions_up_to plan b.until + e) end_is ∙ sym hb.events in
    same_fields a b until_is end_is (ha.jobs ∙ ap (jobs_up_to plan) until_is ∙ sym hb.jobs) events_is

no_past : (plan : PlanView) (until end found : ℕ) (what : What) → IsEnd plan until end → jobs_up_to plan until ≤ 200000 → actions_up_to plan until + end ≤ 1000000
    → IsPast plan until what found → ⊥
no_past plan until end found whats.Jobs is jobs events past = omega (arith, past.0, past.1)
no_past plan until end found whats.Events is jobs events past =
    let e = one_end plan until past.1.0 end past.1.1 is in omega (arith, past.1.2, past.2)
no_past plan until end found _ is jobs events past = past

-- a plan that has a horizon passes no limit
pub horizon_within : (plan : PlanView) (until : ℕ) (a : Horizon) (limit : Limit) → IsHorizon plan a → a.until ≡ until → IsPastLimit plan until limit → ⊥
horizon_within plan until a limit h e past =
    let at : IsPastLimit plan a.until limit = subst (λ (u : ℕ). IsPastLimit plan u limit) (sym e) past in
    no_past plan a.until a.end limit.found limit.what h.end (omega (arith, h.jobs, h.few_jobs)) (omega (arith, h.events, h.few_events)) at

one_past : (plan : PlanView) (until a b : ℕ) (x y : What) → IsPast plan until x a → IsPast plan until y b → (x ≡ y) × (a ≡ b)
one_past plan until a b whats.Jobs whats.Jobs p q = (refl, p.0 ∙ sym q.0)
one_past plan until a b whats.Jobs whats.Events p q = absurd (omega (arith, p.0, p.1, q.0))
one_past plan until a b whats.Events whats.Jobs p q = absurd (omega (arith, q.0, q.1, p.0))
one_past plan until a b whats.Events whats.Events p q = (refl, omega (arith, one_end plan until p.1.0 q.1.0 p.1.1 q.1.1, p.1.2, q.1.2))
one_past plan until a b whats.Jobs _ p q = absurd q
one_past plan until a b whats.Events _ p q = absurd q
one_past plan until a b _ y p q = absurd p

-- a plan passes one limit
pub one_limit : (plan : PlanView) (until : ℕ) (a b : Limit) → IsPastLimit plan until a → IsPastLimit plan until b → a ≡ b
one_limit plan until a b p q =
    let same = one_past plan until a.found b.found a.what b.what p q in
    same_limit a b same.0 same.1

-- the greatest value of f below n; 0 where there is none
record IsGreatest (f : ℕ → ℕ) (n top : ℕ) : Type 0 where
  pub above : (k : ℕ) → k < n → f k ≤ top
  pub attained : (top ≡ 0) ⊎ ((k : ℕ) × (k < n) × (top ≡ f k))

abbrev Greatest : (ℕ → ℕ) → ℕ → Type 0
Greatest f n = (top : ℕ) × IsGreatest f n top

next : (n : ℕ) → n + 1 ≡ suc n
next n = omega arith

more : (f : ℕ → ℕ) (n top : ℕ) → IsGreatest f n top → Greatest f (n + 1)
more f n top h = elim (cases_lt top (f n)) [
  | inl higher ↦ (f n, record { above = higher_above higher; attained = inr (n, omega arith, refl) })
  | inr lower ↦ (top, record { above = lower_above lower; attained = attained h.attained })
]
  where
    higher_above : top < f n → (k : ℕ) → k < n + 1 → f k ≤ f n
    higher_above higher k lt = elim (cases_lt k n) [
      | inl below ↦ omega (arith, h.above k below, higher)
      | inr past ↦ let same : k ≡ n = omega arith in omega (arith, ap f same)
    ]

    lower_above : f n ≤ top → (k : ℕ) → k < n + 1 → f k ≤ top
    lower_above lower k lt = elim (cases_lt k n) [
      | inl below ↦ h.above k below
      | inr past ↦ let same : k ≡ n = omega arith in omega (arith, ap f same, lower)
    ]

    attained : ((top ≡ 0) ⊎ ((k : ℕ) × (k < n) × (top ≡ f k))) → (top ≡ 0) ⊎ ((k : ℕ) × (k < n + 1) × (top ≡ f k))
    attained (inl e) = inl e
    attained (inr (k, lt, e)) = inr (k, omega arith, e)

greatest : (f : ℕ → ℕ) (n : ℕ) → Greatest f n
greatest f zero = (0, record { above = λ k lt. absurd (omega arith); attained = inl refl })
greatest f (suc n) = let h = greatest f n in subst (Greatest f) (next n) (more f n h.0 h.1)

module _ (plan : PlanView) (until : ℕ) (good : IsWellFormed plan.graph) where
  task_period : (i : ℕ) → i < length plan.graph.tasks → 1 ≤ (task_at plan.graph i).clock.period
  task_period i task = (good.tasks i (task_at plan.graph i) (slice_get-get_or plan.graph.tasks i no_task task)).period.0

  abbrev count : ℕ → ℕ
  count i = job_count (task_at plan.graph i) until

  -- the greatest encoded deadline of a task's horizon jobs
  abbrev task_end : ℕ → ℕ
  task_end i = (greatest (deadline_at plan i) (count i)).0

  some_end : (end : ℕ) × IsEnd plan until end
  some_end =
      let h = greatest task_end (length plan.graph.tasks) in
      (h.0, record { above = above h.0 h.1; attained = attained h.0 h.1.attained })
    where
      above : (end : ℕ) → IsGreatest task_end (length plan.graph.tasks) end → (i n : ℕ) → IsHorizonJob plan.graph until i n → deadline_at plan i n ≤ end
      above end h i n job =
          let lt = job_count_horizon plan.graph until i n (task_period i job.task) job in
          omega (arith, (greatest (deadline_at plan i) (count i)).1.above n lt, h.above i job.task)

      of_task : (end i : ℕ) → i < length plan.graph.tasks → end ≡ task_end i → (end ≡ 0) ⊎ ((j : ℕ) × (n : ℕ) × IsHorizonJob plan.graph until j n × (end ≡ deadline_at plan j n))
      of_task end i task e = elim (greatest (deadline_at plan i) (count i)).1.attained [
        | inl none ↦ inl (e ∙ none)
        | inr job ↦ inr (i, job.0, IsHorizonJob_count plan.graph until i job.0 task (task_period i task) job.1, e ∙ job.2)
      ]

      attained : (end : ℕ) → ((end ≡ 0) ⊎ ((i : ℕ) × (i < length plan.graph.tasks) × (end ≡ task_end i)))
          → (end ≡ 0) ⊎ ((j : ℕ) × (n : ℕ) × IsHorizonJob plan.graph until j n × (end ≡ deadline_at plan j n))
      attained end (inl none) = inl none
      attained end (inr (i, task, e)) = of_task end i task e

  abbrev Outcome : Type 0
  Outcome = ((horizon : Horizon) × IsHorizon plan horizon × (horizon.until ≡ until)) ⊎ ((limit : Limit) × IsPastLimit plan until limit)

  by_events : until < 2 ^ 32 → (end : ℕ) → IsEnd plan until end → jobs_up_to plan until ≤ MAX_JOBS → Outcome
  by_events small end is jobs = elim (cases_lt MAX_EVENTS (actions_up_to plan until + end)) [
    | inl many ↦ inr (limit_with whats.Events (actions_up_to plan until + end), (jobs, (end, is, refl), many))
    | inr few ↦ inl (
      horizon_with until end (jobs_up_to plan until) (actions_up_to plan until + end),
      record {
        until = small;
        end = is;
        jobs = refl;
        events = refl;
        few_jobs = jobs;
        few_events = few;
      },
      refl,
    )
  ]

  pub horizon_or_limit : until < 2 ^ 32 → Outcome
  horizon_or_limit small = elim (cases_lt MAX_JOBS (jobs_up_to plan until)) [
    | inl many ↦ inr (limit_with whats.Jobs (jobs_up_to plan until), (refl, many))
    | inr few ↦ by_events small some_end.0 some_end.1 few
  ]
