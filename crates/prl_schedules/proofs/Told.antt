-- What is told of an event that breaks a rule, in each horizon.
use Rattle.prl_base.proofs.Standard.{◌≡◌, ◌≢◌, ◌+◌, ◌<◌, ◌≤◌, ◌^◌, ◌⊎◌, ℕ, zero, suc, List, length, Option, Some, None, refl, sym, ◌∙◌, ap, subst, arith, inl, inr, slice_index, cases_eq, cases_lt}
use Rattle.prl_base.specs.declared.numbers.TaskNo.{TaskNo}
use Rattle.prl_plan.specs.declared.events.Event.TheVariants as events
use Rattle.prl_plan.specs.declared.events.Rule.TheVariants as rules
use Rattle.prl_plan.specs.Vocabulary.{HasPlanFacts, IsJob, IsEnd, IsHorizon, constants_of, IsHorizonJob, job_count, task_at, PlanView, deadline_at, release_at, FirstBroken, HasJob, IsDue, IsOvertaken}
use Rattle.prl_plan.specs.Vocabulary.{IsUnfinished, first_unfinished, ExecState, RunConstants}
use Rattle.prl_plan.specs.declared.horizons.Horizon.{Horizon}
use Rattle.prl_schedules.specs.declared.causes.Cause.TheVariants as causes
use Rattle.prl_schedules.specs.Vocabulary.{DatedJob, Next, Walk, IsCause, IsDueJob, IsFirstJob, IsEarly, IsLate, IsLatest, IsLeast, IsLeastBelow, IsNext, IsPending, own_date, IsReached}
use Rattle.prl_schedules.proofs.Jobs.{AreCounted, HavePeriods, before_is_job, early, first_is, job_is_before, rises}

module _ (plan : PlanView) (h : Horizon) (is : IsHorizon plan h) (facts : HasPlanFacts (constants_of plan h)) (counted : AreCounted) (periods : HavePeriods plan)
    (s : ExecState) (walk : Walk) (reached : IsReached (constants_of plan h) s walk) where
  first_number : (i : ℕ) → first_unfinished s i ≡ slice_index walk.ended.items i
  first_number i = ap (λ (xs : List ℕ). slice_index xs i) reached.shows.ended

  -- a late job is not of the run
  pub not_late : (i : ℕ) → IsLate plan i (slice_index walk.ended.items i) → HasJob (constants_of plan h) s i → ⊥
  not_late i late has =
      (let all = late.none h.until is.until in
      let job = has.job in
      let n = first_number i in
      omega (arith, all, job, n))

  at_task : (i : ℕ) (next : Next) → IsNext plan i (slice_index walk.ended.items i) next →
      IsNext plan next.job.task.0 (slice_index walk.ended.items next.job.task.0) next
  at_task i next at = subst (λ (k : ℕ). IsNext plan k (slice_index walk.ended.items k) next) (sym at.task) at

  -- the first unfinished job of a task, where the run has it
  pub first_job : (i : ℕ) (next : Next) → IsNext plan i (slice_index walk.ended.items i) next → HasJob (constants_of plan h) s i →
      IsFirstJob (constants_of plan h) s next.job
  first_job i next at has =
      let k : ℕ = next.job.task.0 in
      let here = at_task i next at in
      record {
        unfinished = subst (λ (j : ℕ). HasJob (constants_of plan h) s j) (sym at.task) has;
        number = here.number ∙ sym (first_number k);
        release = here.release ∙ ap (λ (n : ℕ). release_at plan k n) (sym here.number);
        deadline = here.deadline ∙ ap (λ (n : ℕ). deadline_at plan k n) (sym here.number);
      }

  pub same_task : (task : TaskNo) (next : Next) → IsNext plan task.0 (slice_index walk.ended.items task.0) next → next.job.task ≡ task
  same_task task next at = ap (λ (n : ℕ). record { 0 = n }) at.task

  pub released_now : (i : ℕ) (next : Next) → IsNext plan i (slice_index walk.ended.items i) next → next.job.release ≡ release_at plan i (first_unfinished s i)
  released_now i next at = at.release ∙ ap (λ (n : ℕ). release_at plan i n) (sym (first_number i))

  pub due_now : (i : ℕ) (next : Next) → IsNext plan i (slice_index walk.ended.items i) next → next.job.deadline ≡ deadline_at plan i (first_unfinished s i)
  due_now i next at = at.deadline ∙ ap (λ (n : ℕ). deadline_at plan i n) (sym (first_number i))

  -- a released unfinished job of the run that is due before a bound shows a pending one
  pub shows_pending : (bound j n : ℕ) → IsUnfinished (constants_of plan h) s j n → release_at plan j n ≤ s.now → deadline_at plan j n < bound →
      IsPending plan walk.tick walk.ended.items bound j × (own_date plan j (slice_index walk.ended.items j) < h.until)
  shows_pending bound j n left released due =
      let has = first_is (constants_of plan h) facts s j n left in
      let up = rises (constants_of plan h) facts s j n left in
      let number = first_number j in
      let job : slice_index walk.ended.items j < job_count (task_at plan.graph j) h.until = (let b = has.job in omega (arith, b, number)) in
      let r = ap (λ (k : ℕ). release_at plan j k) number in
      let d = ap (λ (k : ℕ). deadline_at plan j k) number in
      let r' = up.0 in
      let d' = up.1 in
      let t = reached.shows.tick in (
        record {
          early = early plan counted j left.task (periods j left.task) h.until (slice_index walk.ended.items j) is.until job;
          released = omega (arith, r, r', released, t);
          due = omega (arith, d, d', due);
        },
        job_is_before plan counted j left.task (periods j left.task) h.until (slice_index walk.ended.items j) job,
      )

  -- where the run has one of the pending jobs, it has the least
  pub least_is_job : (bound j : ℕ) (next : Next) → IsLeast plan walk.tick walk.ended.items bound (length plan.graph.tasks) next → j < length plan.graph.tasks →
      IsPending plan walk.tick walk.ended.items bound j → own_date plan j (slice_index walk.ended.items j) < h.until →
      HasJob (constants_of plan h) s next.job.task.0
  least_is_job bound j next least inside pending below =
      let k : ℕ = next.job.task.0 in
      let low = least.least j inside pending in
      let own = least.pending.is_next.own in
      let number = first_number k in
      let job = before_is_job plan counted k least.below (periods k least.below) h.until (slice_index walk.ended.items k) (omega (arith, low, own, below)) in
      record {
        task = least.below;
        job = omega (arith, job, number);
        unfinished = omega arith;
      }

  -- an act overtakes the least of the jobs that are due before it
  pub overtaken_is : (task : TaskNo) (next other : Next) → IsNext plan task.0 (slice_index walk.ended.items task.0) next →
      IsLeast plan walk.tick walk.ended.items next.job.deadline (length plan.graph.tasks) other →
      FirstBroken (constants_of plan h) s (events.Act task) rules.L3 →
      IsCause (constants_of plan h) s (events.Act task) rules.L3 (causes.Overtakes next.job other.job)
  overtaken_is task next other at least broken =
      let over = broken.2 in
      let due = due_now task.0 next at in
      let d = over.5 in
      let shown = shows_pending next.job.deadline over.0 over.1 over.3 over.4 (omega (arith, d, due)) in
      let has = least_is_job next.job.deadline over.0 other least over.3.task shown.0 shown.1 in
      let r = least.pending.released in
      let t = reached.shows.tick in
      (same_task task next at, first_job task.0 next at broken.0, first_job other.job.task.0 other least.pending.is_next has, omega (arith, r, t), least.pending.due)

  pub none_overtaken : (task : TaskNo) (next : Next) → IsNext plan task.0 (slice_index walk.ended.items task.0) next →
      IsLeastBelow plan walk.tick walk.ended.items next.job.deadline (length plan.graph.tasks) None →
      FirstBroken (constants_of plan h) s (events.Act task) rules.L3 → ⊥
  none_overtaken task next at none broken =
      let over = broken.2 in
      let due = due_now task.0 next at in
      let d = over.5 in
      let shown = shows_pending next.job.deadline over.0 over.1 over.3 over.4 (omega (arith, d, due)) in
      none over.0 over.3.task shown.0

  -- a job of the run that is due shows a pending one
  due_shows : (due : IsDue (constants_of plan h) s) → IsPending plan walk.tick walk.ended.items (walk.tick + 2) due.0
      × (own_date plan due.0 (slice_index walk.ended.items due.0) < h.until)
  due_shows due =
      let t = reached.shows.tick in
      let d = due.3 in
      let w = facts.window due.0 due.1 (record { task = due.2.task; job = due.2.job }) in
      shows_pending (walk.tick + 2) due.0 due.1 due.2 (omega (arith, w, d)) (omega (arith, d, t))

  pub over_none : IsLeastBelow plan walk.tick walk.ended.items (walk.tick + 2) (length plan.graph.tasks) None →
      FirstBroken (constants_of plan h) s events.Tick rules.L4 → h.end ≤ s.now
  over_none none broken = elim broken [
    | inl over ↦ over
    | inr due ↦ absurd (let shown = due_shows due in none due.0 due.2.task shown.0)
  ]

  module _ (next : Next) (least : IsLeast plan walk.tick walk.ended.items (walk.tick + 2) (length plan.graph.tasks) next) where
    -- where a job of the run is due, the least is
    due_is : IsDue (constants_of plan h) s → IsDueJob (constants_of plan h) s next.job
    due_is due =
        let shown = due_shows due in
        let has = least_is_job (walk.tick + 2) due.0 next least due.2.task shown.0 shown.1 in
        let d = least.pending.due in
        let t = reached.shows.tick in
        (first_job next.job.task.0 next least.pending.is_next has, omega (arith, d, t))

    pub over_past : next.job.deadline ≤ walk.tick → FirstBroken (constants_of plan h) s events.Tick rules.L4 → h.end ≤ s.now
    over_past past broken = elim broken [
      | inl over ↦ over
      | inr due ↦ absurd
          (let its = due_is due in
          let first = its.0 in
          let t = reached.shows.tick in
          let d = first.deadline in
          let kept = reached.sound.kept next.job.task.0 next.job.number
          (record { task = first.unfinished.task; job = (let j = first.unfinished.job in let n = first.number in omega (arith, j, n)) }) (omega (arith, d, t, past)) in
          let n = first.number in
          omega (arith, kept, n))
    ]

    pub due_or_over : FirstBroken (constants_of plan h) s events.Tick rules.L4 →
        IsDueJob (constants_of plan h) s next.job ⊎ (((constants_of plan h).jobs next.job.task.0 ≤ next.job.number) × (h.end ≤ s.now))
    due_or_over broken = elim broken [
      | inl over ↦ by_run over
      | inr due ↦ inl (due_is due)
    ]
      where
        k : ℕ
        k = next.job.task.0

        by_run : h.end ≤ s.now → IsDueJob (constants_of plan h) s next.job ⊎ (((constants_of plan h).jobs next.job.task.0 ≤ next.job.number) × (h.end ≤ s.now))
        by_run over = elim (cases_lt next.job.number (job_count (task_at plan.graph k) h.until)) [
          | inl job ↦
              (let number = first_number k in
              let n = least.pending.is_next.number in
              let has : HasJob (constants_of plan h) s k = record { task = least.below; job = omega (arith, job, number, n); unfinished = omega arith } in
              let d = least.pending.due in
              let t = reached.shows.tick in
              inl (first_job k next least.pending.is_next has, omega (arith, d, t)))
          | inr past ↦ inr (past, over)
        ]

    -- the run is over only where a job that has ended was due by now
    end_is_latest : (latest : ℕ) → IsLatest plan walk.ended.items (length plan.graph.tasks) latest → h.end ≤ s.now → latest ≡ walk.tick
    end_is_latest latest is_latest over =
        let within = reached.within in
        let t = reached.shows.tick in
        let up : latest ≤ h.end = at_most in
        let down : h.end ≤ latest = at_least in
        omega (arith, within, t, up, down, over)
      where
        -- the last ended job of a task is one of the run
        last_is : (j m : ℕ) → j < length plan.graph.tasks → slice_index walk.ended.items j ≡ m + 1 → IsJob (constants_of plan h) j m
        last_is j m inside last = record {
          task = inside;
          job = (let all = reached.sound.tagged.counted j inside in let n = first_number j in omega (arith, all, n, last));
        }

        at_most : latest ≤ h.end
        at_most = elim is_latest.attained [
          | inl none ↦ omega (arith, none)
          | inr at ↦
              (let d = facts.within at.0 at.1 (last_is at.0 at.1 at.2 at.3) in
              let e = at.4 in
              omega (arith, d, e))
        ]

        at_least : h.end ≤ latest
        at_least = elim is.end.attained [
          | inl none ↦ omega (arith, none)
          | inr at ↦ by_job at.0 at.1 at.2 at.3
        ]
          where
            by_job : (i n : ℕ) → IsHorizonJob plan.graph h.until i n → h.end ≡ deadline_at plan i n → h.end ≤ latest
            by_job i n job end =
                let count = (counted plan.graph h.until i n job.task (periods i job.task)).0 job in
                let kept = reached.sound.kept i n (record { task = job.task; job = count }) (omega (arith, end, over)) in
                let number = first_number i in
                by_last i n job.task (slice_index walk.ended.items i) refl (omega (arith, kept, number)) end
              where
                by_last : (i n : ℕ) → i < length plan.graph.tasks → (k : ℕ) → slice_index walk.ended.items i ≡ k → n < k → h.end ≡ deadline_at plan i n → h.end ≤ latest
                by_last i n inside zero last below end = absurd (omega (arith, below))
                by_last i n inside (suc m) last below end =
                    let job = last_is i m inside (omega (arith, last)) in
                    let top = is_latest.above i m inside (omega (arith, last)) (early plan counted i inside (periods i inside) h.until m is.until job.job) in
                    elim (cases_eq n m) [
                      | inl same ↦ (let e = ap (λ (x : ℕ). deadline_at plan i x) same in omega (arith, e, end, top))
                      | inr other ↦
                          (let apart = facts.apart i n m job (omega (arith, other, below)) in
                          let w = facts.window i m job in
                          omega (arith, apart, w, end, top))
                    ]

    pub due_alone : (latest : ℕ) → IsLatest plan walk.ended.items (length plan.graph.tasks) latest → latest ≢ walk.tick →
        FirstBroken (constants_of plan h) s events.Tick rules.L4 → IsDueJob (constants_of plan h) s next.job
    due_alone latest is_latest other broken = elim broken [
      | inl over ↦ absurd (other (end_is_latest latest is_latest over))
      | inr due ↦ due_is due
    ]
