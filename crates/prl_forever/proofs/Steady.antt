-- The plain run is steady after all tasks have started, where the load is no more than a hyperperiod and all windows are met.
use Rattle.prl_base.proofs.Standard.{◌≡◌, ◌+◌, ◌*◌, ◌-◌, ◌<◌, ◌≤◌, ◌⊎◌, ℕ, zero, suc, List, [], ◌∷◌, length, Option, Some, None, inl, inr, refl, sym, ◌∙◌, ap, subst, arith, nat_tests, ints, pos, pos-*ℤ-pos}
use Rattle.prl_base.proofs.Standard.{cases_lt, cases_eq, slice_get, slice_get-get_or, div_ceil, div_ceil_times}
use Rattle.prl_plan.specs.declared.graphs.Task.{Task}
use Rattle.prl_plan.specs.declared.horizons.Horizon.{Horizon}
use Rattle.prl_plan.specs.Vocabulary.{HasPlanFacts, task_at, no_task, job_count, IsJob, constants_of, sum_below, PlanView, IsPlan, release_at, deadline_at}
use Rattle.prl_plan.proofs.RoundPeriods.{task_is}
use Rattle.prl_overlaps.specs.Demand.{wcets_of, sum_of_jobs}
use Rattle.prl_overlaps.proofs.Sums.{jobs_grow}
use Rattle.prl_edf.specs.Vocabulary.{IsPlainRun, IsReady, MeetsAllWindows, unit_of, units_before}
use Rattle.prl_tables.specs.Tables.{classes}
use Rattle.prl_table.specs.Made.{cut_from, greatest_start, hypers_before, later, run_until}
use Rattle.prl_forever.specs.Forever.{load_of}
use Rattle.prl_forever.proofs.Moved.{sum_longer, sum_moved, sum_most_two, sum_few}
use Rattle.prl_forever.proofs.Dates.{release_later, deadline_later, window, due_by}
use Rattle.prl_forever.proofs.Forever.{AreCounted}

some_or_none : (o : Option (ℕ × ℕ)) → (o ≡ None) ⊎ ((i : ℕ) × (n : ℕ) × (o ≡ Some (i, n)))
some_or_none None = inl refl
some_or_none (Some job) = inr (job.0, job.1, refl)

unit_here : (i n : ℕ) → unit_of (Some (i, n)) i n ≡ 1
unit_here i n = grind (arith, nat_tests)

unit_other : (j k i n : ℕ) → (i ≡ j → n ≡ k → ⊥) → unit_of (Some (j, k)) i n ≡ 0
unit_other j k i n other = grind (arith, nat_tests)

-- a job gets the tick, or it does not
gets_or_not : (o : Option (ℕ × ℕ)) (i n : ℕ) → (o ≡ Some (i, n)) ⊎ (unit_of o i n ≡ 0)
gets_or_not None i n = inr refl
gets_or_not (Some job) i n =
    elim (cases_eq job.0 i) [
      | inr other ↦ inr (unit_other job.0 job.1 i n (λ same _. other (sym same)))
      | inl task ↦ elim (cases_eq job.1 n) [
        | inr other ↦ inr (unit_other job.0 job.1 i n (λ _ same. other (sym same)))
        | inl number ↦ inl (λ d. Some (task d, number d))
      ]
    ]

-- no task starts after the greatest start
pub starts_by : (tasks : List Task) (i : ℕ) (task : Task) → slice_get tasks i ≡ Some task → task.clock.start ≤ greatest_start tasks
starts_by [] i task at = (let e : ◌≡◌ {A = Option Task} None (Some task) = at in cc)
starts_by (first ∷ rest) zero task at = (let e : ◌≡◌ {A = Option Task} (Some first) (Some task) = at in let same : first ≡ task = cc in let s = ap (λ (t : Task). t.clock.start) same in omega (arith, s))
starts_by (first ∷ rest) (suc i) task at = (let r = starts_by rest i task at in omega (arith, r))

module _ (plan : PlanView) (is : IsPlan plan) where
  started_by : (i : ℕ) → i < length plan.graph.tasks → (task_at plan.graph i).clock.start ≤ greatest_start plan.graph.tasks
  started_by i inside = starts_by plan.graph.tasks i (task_at plan.graph i) (slice_get-get_or plan.graph.tasks i no_task inside)

  -- the hyperperiod that is cut out begins a hyperperiod after all tasks have started
  cut_late : greatest_start plan.graph.tasks + plan.graph.hyper ≤ cut_from plan
  cut_late =
      let some = is.graph.hyper in
      let up = (div_ceil_times (greatest_start plan.graph.tasks) plan.graph.hyper some).0 in
      let whole : hypers_before plan.graph * plan.graph.hyper ≡ plan.graph.hyper + div_ceil (greatest_start plan.graph.tasks) plan.graph.hyper * plan.graph.hyper = omega arith in
      omega (arith, up, whole)

  -- by then the jobs of the first hyperperiod are due
  first_due : (i n : ℕ) → i < length plan.graph.tasks → n < classes plan.graph i → deadline_at plan i n ≤ cut_from plan
  first_due i n inside below =
      let one : 1 * classes plan.graph i ≡ classes plan.graph i = omega arith in
      let due = due_by plan is i n 1 (greatest_start plan.graph.tasks) inside (started_by i inside) (omega (arith, below, one)) in
      let self : 1 * plan.graph.hyper ≡ plan.graph.hyper = omega arith in
      omega (arith, due, self, cut_late)

module _ (plan : PlanView) (is : IsPlan plan) (counted : AreCounted plan) (h : Horizon) (facts : HasPlanFacts (constants_of plan h)) (far : h.until ≡ run_until plan)
    (run : ℕ → Option (ℕ × ℕ)) (plain : IsPlainRun (constants_of plan h) (wcets_of plan) run) (met : MeetsAllWindows (constants_of plan h) (wcets_of plan) run) where
  abbrev units : ℕ → ℕ → ℕ → ℕ
  units t i n = units_before run t i n

  abbrev wcet_at : ℕ → ℕ
  wcet_at i = (task_at plan.graph i).wcet

  abbrev Ready : ℕ → ℕ → ℕ → Type 0
  Ready t i n = IsReady (constants_of plan h) (wcets_of plan) run t i n

  up : (s t i n : ℕ) → s ≤ t → units s i n ≤ units t i n
  up s zero i n le = (let same : s ≡ 0 = omega (arith, le) in let e = ap (λ (x : ℕ). units_before run x i n) same in omega (arith, e))
  up s (suc t) i n le = elim (cases_lt t s) [
    | inl past ↦ (let same : s ≡ suc t = omega (arith, le, past) in let e = ap (λ (x : ℕ). units_before run x i n) same in omega (arith, e))
    | inr before ↦ (let rest = up s t i n before in omega (arith, rest))
  ]

  one_more : (t i n : ℕ) → run t ≡ Some (i, n) → units (suc t) i n ≡ units t i n + 1
  one_more t i n goes = (let e : unit_of (run t) i n ≡ 1 = ap (λ (o : Option (ℕ × ℕ)). unit_of o i n) goes ∙ unit_here i n in omega (arith, e))

  never_more : (t i n : ℕ) → units t i n ≤ wcet_at i
  never_more zero i n = omega arith
  never_more (suc t) i n = elim (gets_or_not (run t) i n) [
    | inl gets ↦ (let ready = plain.edf.timed.ready t i n gets in let left = ready.left in let more = one_more t i n gets in omega (arith, left, more))
    | inr without ↦ (let rest = never_more t i n in omega (arith, rest, without))
  ]

  none_yet : (t i n : ℕ) → t ≤ release_at plan i n → units t i n ≡ 0
  none_yet zero i n le = refl
  none_yet (suc t) i n le = elim (gets_or_not (run t) i n) [
    | inl gets ↦ absurd (let ready = plain.edf.timed.ready t i n gets in let released = ready.released in omega (arith, released, le))
    | inr without ↦ (let rest = none_yet t i n (omega (arith, le)) in omega (arith, rest, without))
  ]

  is_job : (i n : ℕ) → i < length plan.graph.tasks → release_at plan i n < h.until → IsJob (constants_of plan h) i n
  is_job i n inside early = record {
    task = inside;
    job = (counted h.until i n inside (task_is plan.graph is.graph i inside).period.0).0 (record {
      task = inside;
      early = (let above = is.dates.releases.releases.above i (pos n) inside in
          let product = pos-*ℤ-pos n (task_at plan.graph i).clock.period in
          omega (arith, ints, above, early, product));
    });
  }

  ready : (t i n : ℕ) → i < length plan.graph.tasks → t < h.until → release_at plan i n ≤ t → units t i n < wcet_at i → Ready t i n
  ready t i n inside early released left = record { job = is_job i n inside (omega (arith, early, released)); released = released; left = left }

  -- where a job is ready, the tick goes to one
  busy : (t i n : ℕ) → Ready t i n → run t ≡ None → ⊥
  busy t i n ready none =
      let all = met i n ready.job in
      let left = ready.left in
      let end = facts.within i n ready.job in
      elim (cases_lt t (deadline_at plan i n)) [
        | inl before ↦ plain.edf.busy t i n (omega (arith, before, end)) none ready
        | inr past ↦ (let more = up (deadline_at plan i n) t i n past in omega (arith, more, all, left))
      ]

  -- where the run goes to a job, and a hyperperiod later to one, and each was ready where the other runs, they are the same
  the_same : (t i n j m : ℕ) → run t ≡ Some (j, m) → Ready t i n → run (t + plan.graph.hyper) ≡ Some (i, n + classes plan.graph i) →
      Ready (t + plan.graph.hyper) j (m + classes plan.graph j) → (j ≡ i) × (m ≡ n)
  the_same t i n j m here ready there ready_there =
      let job = (plain.edf.timed.ready t j m here).job in
      let one = plain.edf.earliest t j m i n here ready in
      let two = plain.edf.earliest (t + plan.graph.hyper) i (n + classes plan.graph i) j (m + classes plan.graph j) there ready_there in
      let di = deadline_later plan is i n ready.job.task in
      let dj = deadline_later plan is j m job.task in
      let low = plain.lowest t j m i n here ready (omega (arith, one, two, di, dj)) in
      let low_there = plain.lowest (t + plan.graph.hyper) i (n + classes plan.graph i) j (m + classes plan.graph j) there ready_there (omega (arith, one, two, di, dj)) in
      let task : j ≡ i = omega (arith, low, low_there) in
      let at = ap (λ (v : ℕ). deadline_at plan v m) task in (
        task,
        elim (cases_lt m n) [
          | inl before ↦ absurd
              (let apart = facts.apart i m n ready.job before in let w = window plan is i n ready.job.task in omega (arith, apart, w, one, two, di, dj, at))
          | inr not_before ↦ elim (cases_lt n m) [
            | inl after ↦ absurd
                (let its : IsJob (constants_of plan h) i m = subst (λ (v : ℕ). IsJob (constants_of plan h) v m) task job in
                let apart = facts.apart i n m its after in let w = window plan is i m ready.job.task in omega (arith, apart, w, one, two, di, dj, at))
            | inr not_after ↦ omega (arith, not_before, not_after)
          ]
        ],
      )

  -- a job has had no more units a hyperperiod later than the one that it follows by one
  behind : (t : ℕ) → t + plan.graph.hyper ≤ h.until → (i n : ℕ) → i < length plan.graph.tasks → units (t + plan.graph.hyper) i (n + classes plan.graph i) ≤ units t i n
  behind zero within i n inside =
      (let r = release_later plan is i n inside in
      let none = none_yet (0 + plan.graph.hyper) i (n + classes plan.graph i) (omega (arith, r)) in omega (arith, none))
  behind (suc t) within i n inside =
      let rest = behind t (omega (arith, within)) i n inside in
      let rise = up t (suc t) i n (omega arith) in
      let turn : suc t + plan.graph.hyper ≡ suc (t + plan.graph.hyper) = omega arith in
      let turned = ap (λ (x : ℕ). units_before run x i (n + classes plan.graph i)) turn in
      elim (gets_or_not (run (t + plan.graph.hyper)) i (n + classes plan.graph i)) [
        | inr without ↦ omega (arith, rest, rise, turned, without)
        | inl gets ↦
            (let more = one_more (t + plan.graph.hyper) i (n + classes plan.graph i) gets in
            elim (cases_lt (units (t + plan.graph.hyper) i (n + classes plan.graph i)) (units t i n)) [
              | inl less ↦ omega (arith, less, more, rise, turned)
              | inr level ↦
                  (let its = plain.edf.timed.ready (t + plan.graph.hyper) i (n + classes plan.graph i) gets in
                  let released = its.released in
                  let left = its.left in
                  let r = release_later plan is i n inside in
                  let before : Ready t i n = ready t i n inside (omega (arith, within)) (omega (arith, released, r)) (omega (arith, left, rest, level)) in
                  elim (some_or_none (run t)) [
                    | inl none ↦ absurd (busy t i n before none)
                    | inr some ↦
                        (let here = plain.edf.timed.ready t some.0 some.1 some.2 in
                        let here_released = here.released in
                        let here_left = here.left in
                        let rj = release_later plan is some.0 some.1 here.job.task in
                        let low = behind t (omega (arith, within)) some.0 some.1 here.job.task in
                        let there : Ready (t + plan.graph.hyper) some.0 (some.1 + classes plan.graph some.0) =
                        ready (t + plan.graph.hyper) some.0 (some.1 + classes plan.graph some.0) here.job.task (omega (arith, within)) (omega (arith, here_released, rj)) (omega (arith, here_left, low)) in
                        let same = the_same t i n some.0 some.1 some.2 before gets there in
                        let goes : run t ≡ Some (i, n) = some.2 ∙ (λ d. Some (same.0 d, same.1 d)) in
                        let one = one_more t i n goes in
                        omega (arith, rest, one, more, turned))
                  ])
            ])
      ]

  -- each job has had as many units a hyperperiod later
  abbrev AreLevel : ℕ → Type 0
  AreLevel t = (i n : ℕ) → i < length plan.graph.tasks → units (t + plan.graph.hyper) i (n + classes plan.graph i) ≡ units t i n

  -- a job of the first hyperperiod has had all its units by then, so a later one is ready
  not_first : (t i n : ℕ) → cut_from plan ≤ t → Ready t i n → classes plan.graph i ≤ n
  not_first t i n late ready = elim (cases_lt n (classes plan.graph i)) [
    | inr past ↦ past
    | inl first ↦ absurd
        (let due = first_due plan is i n ready.job.task first in
        let all = met i n ready.job in
        let left = ready.left in
        let more = up (deadline_at plan i n) t i n (omega (arith, due, late)) in omega (arith, more, all, left))
  ]

  -- the job that it follows by a hyperperiod was ready a hyperperiod before
  ready_before : (t : ℕ) → AreLevel t → t + plan.graph.hyper < h.until → (i n : ℕ) → classes plan.graph i ≤ n → Ready (t + plan.graph.hyper) i n →
      (n - classes plan.graph i + classes plan.graph i ≡ n) × Ready t i (n - classes plan.graph i)
  ready_before t level within i n past its =
      let back : n - classes plan.graph i + classes plan.graph i ≡ n = omega (arith, past) in
      let r = release_later plan is i (n - classes plan.graph i) its.job.task in
      let rs = ap (λ (x : ℕ). release_at plan i x) back in
      let same = level i (n - classes plan.graph i) its.job.task in
      let us = ap (λ (x : ℕ). units_before run (t + plan.graph.hyper) i x) back in
      let released = its.released in
      let left = its.left in
      (back, ready t i (n - classes plan.graph i) its.job.task (omega (arith, within)) (omega (arith, r, rs, released)) (omega (arith, same, us, left)))

  ready_after : (t : ℕ) → AreLevel t → t + plan.graph.hyper < h.until → (i n : ℕ) → Ready t i n → Ready (t + plan.graph.hyper) i (n + classes plan.graph i)
  ready_after t level within i n its =
      let r = release_later plan is i n its.job.task in
      let same = level i n its.job.task in
      let released = its.released in
      let left = its.left in
      ready (t + plan.graph.hyper) i (n + classes plan.graph i) its.job.task within (omega (arith, r, released)) (omega (arith, same, left))

  -- so the tick goes to the same job, a hyperperiod later
  same_tick : (t : ℕ) → AreLevel t → cut_from plan ≤ t + plan.graph.hyper → t + plan.graph.hyper < h.until → later plan (run t) ≡ run (t + plan.graph.hyper)
  same_tick t level late within = elim (some_or_none (run t)) [
    | inl none ↦ elim (some_or_none (run (t + plan.graph.hyper))) [
      | inl none_there ↦ ap (later plan) none ∙ sym none_there
      | inr there ↦ absurd
          (let its = plain.edf.timed.ready (t + plan.graph.hyper) there.0 there.1 there.2 in
          let past = not_first (t + plan.graph.hyper) there.0 there.1 late its in
          let before = ready_before t level within there.0 there.1 past its in
          busy t there.0 (there.1 - classes plan.graph there.0) before.1 none)
    ]
    | inr here ↦
        (let mine = plain.edf.timed.ready t here.0 here.1 here.2 in
        let after = ready_after t level within here.0 here.1 mine in
        elim (some_or_none (run (t + plan.graph.hyper))) [
          | inl none_there ↦ absurd (busy (t + plan.graph.hyper) here.0 (here.1 + classes plan.graph here.0) after none_there)
          | inr there ↦
              (let its = plain.edf.timed.ready (t + plan.graph.hyper) there.0 there.1 there.2 in
              let past = not_first (t + plan.graph.hyper) there.0 there.1 late its in
              let before = ready_before t level within there.0 there.1 past its in
              let goes : run (t + plan.graph.hyper) ≡ Some (there.0, there.1 - classes plan.graph there.0 + classes plan.graph there.0) = there.2 ∙ (λ d. Some (there.0, sym before.0 d)) in
              let same = the_same t there.0 (there.1 - classes plan.graph there.0) here.0 here.1 here.2 before.1 goes after in
              ap (later plan) here.2 ∙ (λ d. Some (same.0 d, same.1 d + classes plan.graph (same.0 d))) ∙ sym goes)
        ])
  ]

  unit_later : (o : Option (ℕ × ℕ)) (i n : ℕ) → unit_of (later plan o) i (n + classes plan.graph i) ≡ unit_of o i n
  unit_later None i n = refl
  unit_later (Some job) i n = elim (cases_eq job.0 i) [
    | inr other ↦
        (let a = unit_other job.0 job.1 i n (λ same _. other (sym same)) in
        let b = unit_other job.0 (job.1 + classes plan.graph job.0) i (n + classes plan.graph i) (λ same _. other (sym same)) in
        omega (arith, a, b))
    | inl task ↦
        (let many = ap (λ (v : ℕ). classes plan.graph v) task in
        elim (cases_eq job.1 n) [
          | inr other ↦
              (let a = unit_other job.0 job.1 i n (λ _ same. other (sym same)) in
              let b = unit_other job.0 (job.1 + classes plan.graph job.0) i (n + classes plan.graph i) (λ _ same. other (omega (arith, same, many))) in
              omega (arith, a, b))
          | inl number ↦
              (let e : ◌≡◌ {A = Option (ℕ × ℕ)} (Some job) (Some (i, n)) = (λ d. Some (task d, number d)) in
              let a : unit_of (Some job) i n ≡ 1 = ap (λ (o : Option (ℕ × ℕ)). unit_of o i n) e ∙ unit_here i n in
              let b : unit_of (later plan (Some job)) i (n + classes plan.graph i) ≡ 1 = ap (λ (o : Option (ℕ × ℕ)). unit_of (later plan o) i (n + classes plan.graph i)) e ∙ unit_here i (n + classes plan.graph i) in
              omega (arith, a, b))
        ])
  ]

  -- and the jobs stay level
  stay_level : (t : ℕ) → AreLevel t → cut_from plan ≤ t + plan.graph.hyper → t + plan.graph.hyper < h.until → AreLevel (suc t)
  stay_level t level late within i n inside =
      let same = same_tick t level late within in
      let unit = sym (ap (λ (o : Option (ℕ × ℕ)). unit_of o i (n + classes plan.graph i)) same) ∙ unit_later (run t) i n in
      let before = level i n inside in
      let turn : suc t + plan.graph.hyper ≡ suc (t + plan.graph.hyper) = omega arith in
      let turned = ap (λ (x : ℕ). units_before run x i (n + classes plan.graph i)) turn in
      omega (arith, unit, before, turned)

  level_from : (s k : ℕ) → AreLevel s → cut_from plan ≤ s + plan.graph.hyper → k + s + plan.graph.hyper ≤ h.until → AreLevel (k + s)
  level_from s zero level late within = subst AreLevel (let e : s ≡ 0 + s = omega arith in e) level
  level_from s (suc k) level late within =
      subst AreLevel (let e : suc (k + s) ≡ suc k + s = omega arith in e)
      (stay_level (k + s) (level_from s k level late (omega (arith, within))) (omega (arith, late)) (omega (arith, within)))

  -- how many units the jobs have had together
  abbrev work : ℕ → ℕ
  work t = sum_of_jobs (constants_of plan h) (units_before run t)

  busy_tick : (t i n : ℕ) → run t ≡ Some (i, n) → work t + 1 ≤ work (suc t)
  busy_tick t i n goes =
      let more = one_more t i n goes in
      let grows = jobs_grow (constants_of plan h) (units_before run t) (units_before run (suc t)) (λ j m _. up t (suc t) j m (omega arith)) i n (plain.edf.timed.ready t i n goes).job (omega (arith, more)) in
      omega (arith, grows)

  -- of k ticks one goes to none, or all give a unit
  idle_or_full : (s k : ℕ) → ((t : ℕ) × (s ≤ t) × (t < k + s) × (run t ≡ None)) ⊎ (work s + k ≤ work (k + s))
  idle_or_full s zero = inr (let e = ap (λ (x : ℕ). work x) (let e : 0 + s ≡ s = omega arith in e) in omega (arith, e))
  idle_or_full s (suc k) = elim (idle_or_full s k) [
    | inl idle ↦ inl (idle.0, idle.1, (let b = idle.2 in omega (arith, b)), idle.3)
    | inr full ↦ elim (some_or_none (run (k + s))) [
      | inl none ↦ inl (k + s, omega arith, omega arith, none)
      | inr some ↦ inr
          (let more = busy_tick (k + s) some.0 some.1 some.2 in
          let e = ap (λ (x : ℕ). work x) (let e : suc k + s ≡ suc (k + s) = omega arith in e) in omega (arith, e, more, full))
    ]
  ]

  -- a tick that goes to none finds all jobs level a hyperperiod before
  idle_level : (t : ℕ) → t + plan.graph.hyper < h.until → run (t + plan.graph.hyper) ≡ None → AreLevel t
  idle_level t within none i n inside =
      let low = behind t (omega (arith, within)) i n inside in
      let r = release_later plan is i n inside in
      elim (cases_lt t (release_at plan i n)) [
        | inl before ↦ (let e = none_yet t i n (omega (arith, before)) in omega (arith, e, low))
        | inr released ↦ elim (cases_lt (units (t + plan.graph.hyper) i (n + classes plan.graph i)) (wcet_at i)) [
          | inl left ↦ absurd (busy (t + plan.graph.hyper) i (n + classes plan.graph i) (ready (t + plan.graph.hyper) i (n + classes plan.graph i) inside within (omega (arith, r, released)) left) none)
          | inr full ↦ (let most = never_more t i n in omega (arith, low, full, most))
        ]
      ]

  -- a hyperperiod later the jobs have done no more than the load beside what those that follow by a hyperperiod have
  work_later : (t : ℕ) → work (t + plan.graph.hyper) ≤ sum_of_jobs (constants_of plan h) (λ i n. units_before run (t + plan.graph.hyper) i (n + classes plan.graph i)) + load_of plan
  work_later t = sum_most_two (λ i. sum_below (units_before run (t + plan.graph.hyper) i) (job_count (task_at plan.graph i) h.until))
      (λ i. sum_below (λ n. units_before run (t + plan.graph.hyper) i (n + classes plan.graph i)) (job_count (task_at plan.graph i) h.until))
      (λ i. classes plan.graph i * wcet_at i) (length plan.graph.tasks) (λ i inside. of_task i)
    where
      of_task : (i : ℕ) → sum_below (units_before run (t + plan.graph.hyper) i) (job_count (task_at plan.graph i) h.until)
          ≤ sum_below (λ n. units_before run (t + plan.graph.hyper) i (n + classes plan.graph i)) (job_count (task_at plan.graph i) h.until) + classes plan.graph i * wcet_at i
      of_task i =
          let longer = sum_longer (units_before run (t + plan.graph.hyper) i) (job_count (task_at plan.graph i) h.until) (classes plan.graph i) in
          let turn : classes plan.graph i + job_count (task_at plan.graph i) h.until ≡ job_count (task_at plan.graph i) h.until + classes plan.graph i = omega arith in
          let turned = ap (λ (x : ℕ). sum_below (units_before run (t + plan.graph.hyper) i) x) turn in
          let moved = sum_moved (units_before run (t + plan.graph.hyper) i) (λ n. units_before run (t + plan.graph.hyper) i (n + classes plan.graph i)) (classes plan.graph i) (job_count (task_at plan.graph i) h.until) (λ n. omega arith) in
          let few = sum_few (units_before run (t + plan.graph.hyper) i) (wcet_at i) (classes plan.graph i) (λ n _. never_more (t + plan.graph.hyper) i n) in
          omega (arith, longer, turned, moved, few)

  -- a hyperperiod without an idle tick leaves them level
  full_level : (t : ℕ) → t + plan.graph.hyper ≤ h.until → load_of plan ≤ plan.graph.hyper → work t + plan.graph.hyper ≤ work (t + plan.graph.hyper) → AreLevel t
  full_level t within light full i n inside =
      let low = behind t within i n inside in
      elim (cases_lt (units (t + plan.graph.hyper) i (n + classes plan.graph i)) (units t i n)) [
        | inr level ↦ omega (arith, low, level)
        | inl less ↦ absurd
            (let early : release_at plan i n < t = elim (cases_lt (release_at plan i n) t) [
              | inl before ↦ before
              | inr after ↦ absurd (let none = none_yet t i n after in omega (arith, none, less))
            ] in
            let job = is_job i n inside (omega (arith, early, within)) in
            let grows = jobs_grow (constants_of plan h) (λ i n. units_before run (t + plan.graph.hyper) i (n + classes plan.graph i)) (units_before run t)
            (λ j m its. behind t within j m its.task) i n job less in
            let all = work_later t in
            omega (arith, grows, all, full, light))
      ]

  pub steady : load_of plan ≤ plan.graph.hyper → (t : ℕ) → cut_from plan ≤ t → t < cut_from plan + plan.graph.hyper → later plan (run t) ≡ run (t + plan.graph.hyper)
  steady light t from to = same_tick t level (omega (arith, from)) (omega (arith, to, far))
    where
      at_cut : AreLevel (cut_from plan)
      at_cut = elim (idle_or_full (cut_from plan) plan.graph.hyper) [
        | inr full ↦
            (let e = ap (λ (x : ℕ). work x) (let e : plan.graph.hyper + cut_from plan ≡ cut_from plan + plan.graph.hyper = omega arith in e) in
            full_level (cut_from plan) (omega (arith, far)) light (omega (arith, full, e)))
        | inl idle ↦
            (let a = idle.1 in
            let b = idle.2 in
            let late = cut_late plan is in
            let back : idle.0 - plan.graph.hyper + plan.graph.hyper ≡ idle.0 = omega (arith, a, late) in
            let none : run (idle.0 - plan.graph.hyper + plan.graph.hyper) ≡ None = ap run back ∙ idle.3 in
            let level = idle_level (idle.0 - plan.graph.hyper) (omega (arith, back, b, far)) none in
            let rest : cut_from plan - (idle.0 - plan.graph.hyper) + (idle.0 - plan.graph.hyper) ≡ cut_from plan = omega (arith, b, a, late) in
            subst AreLevel rest (level_from (idle.0 - plan.graph.hyper) (cut_from plan - (idle.0 - plan.graph.hyper)) level (omega (arith, back, a)) (omega (arith, rest, far))))
      ]

      level : AreLevel t
      level =
          let rest : t - cut_from plan + cut_from plan ≡ t = omega (arith, from) in
          subst AreLevel rest (level_from (cut_from plan) (t - cut_from plan) at_cut (omega arith) (omega (arith, rest, to, far)))
