-- An endless run that meets all windows repeats with the hyperperiod after all tasks have started, where the load is no more than a hyperperiod.
use Rattle.prl_base.proofs.Standard.{◌≡◌, ◌+◌, ◌*◌, ◌-◌, ◌<◌, ◌≤◌, ◌⊎◌, ℕ, zero, suc, length, Option, Some, None, inl, inr, refl, sym, ◌∙◌, ap, subst, arith, nat_tests, cases_lt, cases_eq}
use Rattle.prl_plan.specs.declared.horizons.Horizon.{Horizon}
use Rattle.prl_plan.specs.Vocabulary.{IsJob, task_at, job_count, constants_of, sum_below, PlanView, IsPlan, release_at, deadline_at}
use Rattle.prl_overlaps.specs.Demand.{sum_of_jobs}
use Rattle.prl_overlaps.proofs.Sums.{jobs_grow}
use Rattle.prl_edf.specs.Vocabulary.{unit_of, units_before}
use Rattle.prl_tables.specs.Tables.{classes}
use Rattle.prl_table.specs.Made.{cut_from, later}
use Rattle.prl_forever.specs.Forever.{load_of}
use Rattle.prl_steady.proofs.Sums.{sum_longer, sum_moved, sum_most_two, sum_few}
use Rattle.prl_steady.proofs.Dates.{AreCounted, cut_late, deadline_later, first_due, in_horizon, release_later}
use Rattle.prl_steady.proofs.Over.{IsOver, IsReadyOf, gets_or_not, never_more, none_yet, one_more, one_number, some_or_none, unit_here, unit_other, up}
use Rattle.prl_steady.proofs.Endless.{All}

module _ (plan : PlanView) (is : IsPlan plan) (run : ℕ → Option (ℕ × ℕ)) (over : IsOver plan (All plan) run)
    (met : (i n : ℕ) → i < length plan.graph.tasks → units_before run (deadline_at plan i n) i n ≡ (task_at plan.graph i).wcet) where
  abbrev units : ℕ → ℕ → ℕ → ℕ
  units t i n = units_before run t i n

  abbrev wcet_at : ℕ → ℕ
  wcet_at i = (task_at plan.graph i).wcet

  abbrev Ready : ℕ → ℕ → ℕ → Type 0
  Ready t i n = IsReadyOf plan (All plan) run t i n

  -- where the run goes to a job, and a hyperperiod later to one, and each was ready where the other runs, they are the same
  the_same : (t i n j m : ℕ) → run t ≡ Some (j, m) → Ready t i n → run (t + plan.graph.hyper) ≡ Some (i, n + classes plan.graph i) →
      Ready (t + plan.graph.hyper) j (m + classes plan.graph j) → (j ≡ i) × (m ≡ n)
  the_same t i n j m here ready there ready_there =
      let one = over.earliest t j m i n here ready in
      let two = over.earliest (t + plan.graph.hyper) i (n + classes plan.graph i) j (m + classes plan.graph j) there ready_there in
      let di = deadline_later plan is i n ready.job in
      let dj = deadline_later plan is j m ready_there.job in
      let low = over.lowest t j m i n here ready (omega (arith, one, two, di, dj)) in
      let low_there = over.lowest (t + plan.graph.hyper) i (n + classes plan.graph i) j (m + classes plan.graph j) there ready_there (omega (arith, one, two, di, dj)) in
      let task : j ≡ i = omega (arith, low, low_there) in
      let at = ap (λ (v : ℕ). deadline_at plan v m) task in
      (task, one_number plan is i m n ready.job (omega (arith, one, two, di, dj, at)))

  -- a job has had no more units a hyperperiod later than the one that it follows by one
  behind : (t i n : ℕ) → i < length plan.graph.tasks → units (t + plan.graph.hyper) i (n + classes plan.graph i) ≤ units t i n
  behind zero i n inside =
      (let r = release_later plan is i n inside in
      let none = none_yet plan is (All plan) run over (0 + plan.graph.hyper) i (n + classes plan.graph i) (omega (arith, r)) in omega (arith, none))
  behind (suc t) i n inside =
      let rest = behind t i n inside in
      let rise = up run t (suc t) i n (omega arith) in
      let turn : suc t + plan.graph.hyper ≡ suc (t + plan.graph.hyper) = omega arith in
      let turned = ap (λ (x : ℕ). units_before run x i (n + classes plan.graph i)) turn in
      elim (gets_or_not (run (t + plan.graph.hyper)) i (n + classes plan.graph i)) [
        | inr without ↦ omega (arith, rest, rise, turned, without)
        | inl gets ↦
            (let more = one_more run (t + plan.graph.hyper) i (n + classes plan.graph i) gets in
            elim (cases_lt (units (t + plan.graph.hyper) i (n + classes plan.graph i)) (units t i n)) [
              | inl less ↦ omega (arith, less, more, rise, turned)
              | inr level ↦
                  (let its = over.ready (t + plan.graph.hyper) i (n + classes plan.graph i) gets in
                  let released = its.released in
                  let left = its.left in
                  let r = release_later plan is i n inside in
                  let before : Ready t i n = record { job = inside; released = omega (arith, released, r); left = omega (arith, left, rest, level) } in
                  elim (some_or_none (run t)) [
                    | inl none ↦ absurd (over.busy t i n none before)
                    | inr some ↦
                        (let here = over.ready t some.0 some.1 some.2 in
                        let here_released = here.released in
                        let here_left = here.left in
                        let rj = release_later plan is some.0 some.1 here.job in
                        let low = behind t some.0 some.1 here.job in
                        let there : Ready (t + plan.graph.hyper) some.0 (some.1 + classes plan.graph some.0) =
                        record { job = here.job; released = omega (arith, here_released, rj); left = omega (arith, here_left, low) } in
                        let same = the_same t i n some.0 some.1 some.2 before gets there in
                        let goes : run t ≡ Some (i, n) = some.2 ∙ (λ d. Some (same.0 d, same.1 d)) in
                        let one = one_more run t i n goes in
                        omega (arith, rest, one, more, turned))
                  ])
            ])
      ]

  -- each job has had as many units a hyperperiod later
  abbrev pub AreLevel : ℕ → Type 0
  AreLevel t = (i n : ℕ) → i < length plan.graph.tasks → units (t + plan.graph.hyper) i (n + classes plan.graph i) ≡ units t i n

  -- a job of the first hyperperiod has had all its units by then, so a later one is ready
  not_first : (t i n : ℕ) → cut_from plan ≤ t → Ready t i n → classes plan.graph i ≤ n
  not_first t i n late ready = elim (cases_lt n (classes plan.graph i)) [
    | inr past ↦ past
    | inl first ↦ absurd
        (let due = first_due plan is i n ready.job first in
        let all = met i n ready.job in
        let left = ready.left in
        let more = up run (deadline_at plan i n) t i n (omega (arith, due, late)) in omega (arith, more, all, left))
  ]

  -- the job that it follows by a hyperperiod was ready a hyperperiod before
  ready_before : (t : ℕ) → AreLevel t → (i n : ℕ) → classes plan.graph i ≤ n → Ready (t + plan.graph.hyper) i n →
      (n - classes plan.graph i + classes plan.graph i ≡ n) × Ready t i (n - classes plan.graph i)
  ready_before t level i n past its =
      let back : n - classes plan.graph i + classes plan.graph i ≡ n = omega (arith, past) in
      let r = release_later plan is i (n - classes plan.graph i) its.job in
      let rs = ap (λ (x : ℕ). release_at plan i x) back in
      let same = level i (n - classes plan.graph i) its.job in
      let us = ap (λ (x : ℕ). units_before run (t + plan.graph.hyper) i x) back in
      let released = its.released in
      let left = its.left in
      (back, record { job = its.job; released = omega (arith, r, rs, released); left = omega (arith, same, us, left) })

  ready_after : (t : ℕ) → AreLevel t → (i n : ℕ) → Ready t i n → Ready (t + plan.graph.hyper) i (n + classes plan.graph i)
  ready_after t level i n its =
      let r = release_later plan is i n its.job in
      let same = level i n its.job in
      let released = its.released in
      let left = its.left in
      record { job = its.job; released = omega (arith, r, released); left = omega (arith, same, left) }

  -- so the tick goes to the same job, a hyperperiod later
  same_tick : (t : ℕ) → AreLevel t → cut_from plan ≤ t + plan.graph.hyper → later plan (run t) ≡ run (t + plan.graph.hyper)
  same_tick t level late = elim (some_or_none (run t)) [
    | inl none ↦ elim (some_or_none (run (t + plan.graph.hyper))) [
      | inl none_there ↦ ap (later plan) none ∙ sym none_there
      | inr there ↦ absurd
          (let its = over.ready (t + plan.graph.hyper) there.0 there.1 there.2 in
          let past = not_first (t + plan.graph.hyper) there.0 there.1 late its in
          let before = ready_before t level there.0 there.1 past its in
          over.busy t there.0 (there.1 - classes plan.graph there.0) none before.1)
    ]
    | inr here ↦
        (let mine = over.ready t here.0 here.1 here.2 in
        let after = ready_after t level here.0 here.1 mine in
        elim (some_or_none (run (t + plan.graph.hyper))) [
          | inl none_there ↦ absurd (over.busy (t + plan.graph.hyper) here.0 (here.1 + classes plan.graph here.0) none_there after)
          | inr there ↦
              (let its = over.ready (t + plan.graph.hyper) there.0 there.1 there.2 in
              let past = not_first (t + plan.graph.hyper) there.0 there.1 late its in
              let before = ready_before t level there.0 there.1 past its in
              let goes : run (t + plan.graph.hyper) ≡ Some (there.0, there.1 - classes plan.graph there.0 + classes plan.graph there.0) = there.2 ∙ (λ d. Some (there.0, sym before.0 d)) in
              let same = the_same t there.0 (there.1 - classes plan.graph there.0) here.0 here.1 here.2 before.1 goes after in
              ap (later plan) here.2 ∙ (λ d. Some (same.0 d, same.1 d + classes plan.graph (same.0 d))) ∙ sym goes)
        ])
  ]

  unit_later : (o : Option (ℕ × ℕ)) (i n : ℕ) → unit_of (later plan o) i (n + classes plan.graph i) ≡ unit_of o i n
  unit_later None i n = refl
  unit_later (Some job) i n = elim (cases_eq job.0 i) [
    | inr other ↦
        (let a = unit_other job.0 job.1 i n (λ same _. other (sym same)) in
        let b = unit_other job.0 (job.1 + classes plan.graph job.0) i (n + classes plan.graph i) (λ same _. other (sym same)) in
        omega (arith, a, b))
    | inl task ↦
        (let many = ap (λ (v : ℕ). classes plan.graph v) task in
        elim (cases_eq job.1 n) [
          | inr other ↦
              (let a = unit_other job.0 job.1 i n (λ _ same. other (sym same)) in
              let b = unit_other job.0 (job.1 + classes plan.graph job.0) i (n + classes plan.graph i) (λ _ same. other (omega (arith, same, many))) in
              omega (arith, a, b))
          | inl number ↦
              (let e : ◌≡◌ {A = Option (ℕ × ℕ)} (Some job) (Some (i, n)) = (λ d. Some (task d, number d)) in
              let a : unit_of (Some job) i n ≡ 1 = ap (λ (o : Option (ℕ × ℕ)). unit_of o i n) e ∙ unit_here i n in
              let b : unit_of (later plan (Some job)) i (n + classes plan.graph i) ≡ 1 = ap (λ (o : Option (ℕ × ℕ)). unit_of (later plan o) i (n + classes plan.graph i)) e ∙ unit_here i (n + classes plan.graph i) in
              omega (arith, a, b))
        ])
  ]

  -- and the jobs stay level
  stay_level : (t : ℕ) → AreLevel t → cut_from plan ≤ t + plan.graph.hyper → AreLevel (suc t)
  stay_level t level late i n inside =
      let same = same_tick t level late in
      let unit = sym (ap (λ (o : Option (ℕ × ℕ)). unit_of o i (n + classes plan.graph i)) same) ∙ unit_later (run t) i n in
      let before = level i n inside in
      let turn : suc t + plan.graph.hyper ≡ suc (t + plan.graph.hyper) = omega arith in
      let turned = ap (λ (x : ℕ). units_before run x i (n + classes plan.graph i)) turn in
      omega (arith, unit, before, turned)

  level_from : (s k : ℕ) → AreLevel s → cut_from plan ≤ s + plan.graph.hyper → AreLevel (k + s)
  level_from s zero level late = subst AreLevel (let e : s ≡ 0 + s = omega arith in e) level
  level_from s (suc k) level late =
      subst AreLevel (let e : suc (k + s) ≡ suc k + s = omega arith in e)
      (stay_level (k + s) (level_from s k level late) (omega (arith, late)))

  -- a tick that goes to none finds all jobs level a hyperperiod before
  idle_level : (t : ℕ) → run (t + plan.graph.hyper) ≡ None → AreLevel t
  idle_level t none i n inside =
      let low = behind t i n inside in
      let r = release_later plan is i n inside in
      elim (cases_lt t (release_at plan i n)) [
        | inl before ↦ (let e = none_yet plan is (All plan) run over t i n (omega (arith, before)) in omega (arith, e, low))
        | inr released ↦ elim (cases_lt (units (t + plan.graph.hyper) i (n + classes plan.graph i)) (wcet_at i)) [
          | inl left ↦ absurd (over.busy (t + plan.graph.hyper) i (n + classes plan.graph i) none (record { job = inside; released = omega (arith, r, released); left = left }))
          | inr full ↦ (let most = never_more plan is (All plan) run over t i n in omega (arith, low, full, most))
        ]
      ]

  module _ (counted : AreCounted plan) (h : Horizon) where
    is_job : (i n : ℕ) → i < length plan.graph.tasks → release_at plan i n < h.until → IsJob (constants_of plan h) i n
    is_job i n inside early = record { task = inside; job = in_horizon plan is counted h.until i n inside early }

    -- how many units the jobs before a tick have had together
    abbrev work : ℕ → ℕ
    work t = sum_of_jobs (constants_of plan h) (units_before run t)

    busy_tick : (t i n : ℕ) → t < h.until → run t ≡ Some (i, n) → work t + 1 ≤ work (suc t)
    busy_tick t i n within goes =
        let its = over.ready t i n goes in
        let released = its.released in
        let more = one_more run t i n goes in
        let grows = jobs_grow (constants_of plan h) (units_before run t) (units_before run (suc t)) (λ j m _. up run t (suc t) j m (omega arith)) i n
        (is_job i n its.job (omega (arith, released, within))) (omega (arith, more)) in
        omega (arith, grows)

    -- of k ticks one goes to none, or all give a unit
    idle_or_full : (s k : ℕ) → k + s ≤ h.until → ((t : ℕ) × (s ≤ t) × (t < k + s) × (run t ≡ None)) ⊎ (work s + k ≤ work (k + s))
    idle_or_full s zero within = inr (let e = ap (λ (x : ℕ). work x) (let e : 0 + s ≡ s = omega arith in e) in omega (arith, e))
    idle_or_full s (suc k) within = elim (idle_or_full s k (omega (arith, within))) [
      | inl idle ↦ inl (idle.0, idle.1, (let b = idle.2 in omega (arith, b)), idle.3)
      | inr full ↦ elim (some_or_none (run (k + s))) [
        | inl none ↦ inl (k + s, omega arith, omega arith, none)
        | inr some ↦ inr
            (let more = busy_tick (k + s) some.0 some.1 (omega (arith, within)) some.2 in
            let e = ap (λ (x : ℕ). work x) (let e : suc k + s ≡ suc (k + s) = omega arith in e) in omega (arith, e, more, full))
      ]
    ]

    -- a hyperperiod later the jobs have done no more than the load beside what those that follow by a hyperperiod have
    work_later : (t : ℕ) → work (t + plan.graph.hyper) ≤ sum_of_jobs (constants_of plan h) (λ i n. units_before run (t + plan.graph.hyper) i (n + classes plan.graph i)) + load_of plan
    work_later t = sum_most_two (λ i. sum_below (units_before run (t + plan.graph.hyper) i) (job_count (task_at plan.graph i) h.until))
        (λ i. sum_below (λ n. units_before run (t + plan.graph.hyper) i (n + classes plan.graph i)) (job_count (task_at plan.graph i) h.until))
        (λ i. classes plan.graph i * wcet_at i) (length plan.graph.tasks) (λ i inside. of_task i)
      where
        of_task : (i : ℕ) → sum_below (units_before run (t + plan.graph.hyper) i) (job_count (task_at plan.graph i) h.until)
            ≤ sum_below (λ n. units_before run (t + plan.graph.hyper) i (n + classes plan.graph i)) (job_count (task_at plan.graph i) h.until) + classes plan.graph i * wcet_at i
        of_task i =
            let longer = sum_longer (units_before run (t + plan.graph.hyper) i) (job_count (task_at plan.graph i) h.until) (classes plan.graph i) in
            let turn : classes plan.graph i + job_count (task_at plan.graph i) h.until ≡ job_count (task_at plan.graph i) h.until + classes plan.graph i = omega arith in
            let turned = ap (λ (x : ℕ). sum_below (units_before run (t + plan.graph.hyper) i) x) turn in
            let moved = sum_moved (units_before run (t + plan.graph.hyper) i) (λ n. units_before run (t + plan.graph.hyper) i (n + classes plan.graph i)) (classes plan.graph i) (job_count (task_at plan.graph i) h.until) (λ n. omega arith) in
            let few = sum_few (units_before run (t + plan.graph.hyper) i) (wcet_at i) (classes plan.graph i) (λ n _. never_more plan is (All plan) run over (t + plan.graph.hyper) i n) in
            omega (arith, longer, turned, moved, few)

    -- a hyperperiod without an idle tick leaves them level
    full_level : (t : ℕ) → t ≤ h.until → load_of plan ≤ plan.graph.hyper → work t + plan.graph.hyper ≤ work (t + plan.graph.hyper) → AreLevel t
    full_level t within light full i n inside =
        let low = behind t i n inside in
        elim (cases_lt (units (t + plan.graph.hyper) i (n + classes plan.graph i)) (units t i n)) [
          | inr level ↦ omega (arith, low, level)
          | inl less ↦ absurd
              (let early : release_at plan i n < t = elim (cases_lt (release_at plan i n) t) [
                | inl before ↦ before
                | inr after ↦ absurd (let none = none_yet plan is (All plan) run over t i n after in omega (arith, none, less))
              ] in
              let job = is_job i n inside (omega (arith, early, within)) in
              let grows = jobs_grow (constants_of plan h) (λ i n. units_before run (t + plan.graph.hyper) i (n + classes plan.graph i)) (units_before run t)
              (λ j m its. behind t j m its.task) i n job less in
              let all = work_later t in
              omega (arith, grows, all, full, light))
        ]

    at_cut : load_of plan ≤ plan.graph.hyper → cut_from plan + plan.graph.hyper ≤ h.until → AreLevel (cut_from plan)
    at_cut light far = elim (idle_or_full (cut_from plan) plan.graph.hyper (omega (arith, far))) [
      | inr full ↦
          (let e = ap (λ (x : ℕ). work x) (let e : plan.graph.hyper + cut_from plan ≡ cut_from plan + plan.graph.hyper = omega arith in e) in
          full_level (cut_from plan) (omega (arith, far)) light (omega (arith, full, e)))
      | inl idle ↦
          (let a = idle.1 in
          let b = idle.2 in
          let late = cut_late plan is in
          let back : idle.0 - plan.graph.hyper + plan.graph.hyper ≡ idle.0 = omega (arith, a, late) in
          let none : run (idle.0 - plan.graph.hyper + plan.graph.hyper) ≡ None = ap run back ∙ idle.3 in
          let level = idle_level (idle.0 - plan.graph.hyper) none in
          let rest : cut_from plan - (idle.0 - plan.graph.hyper) + (idle.0 - plan.graph.hyper) ≡ cut_from plan = omega (arith, b, a, late) in
          subst AreLevel rest (level_from (idle.0 - plan.graph.hyper) (cut_from plan - (idle.0 - plan.graph.hyper)) level (omega (arith, back, a))))
    ]

  module _ (counted : AreCounted plan) (light : load_of plan ≤ plan.graph.hyper) where
    pub levels : (t : ℕ) → cut_from plan ≤ t → AreLevel t
    levels t from =
        let far : Horizon = record { until = cut_from plan + plan.graph.hyper; end = 0; jobs = 0; events = 0 } in
        let rest : t - cut_from plan + cut_from plan ≡ t = omega (arith, from) in
        subst AreLevel rest (level_from (cut_from plan) (t - cut_from plan) (at_cut counted far light (omega arith)) (omega arith))

    pub repeats : (t : ℕ) → cut_from plan ≤ t → later plan (run t) ≡ run (t + plan.graph.hyper)
    repeats t from = same_tick t (levels t from) (omega (arith, from))
