-- The dates of jobs that a plan has, a hyperperiod later and in its first one.
use Rattle.prl_base.proofs.Standard.{◌≡◌, ◌+◌, ◌*◌, ◌<◌, ◌≤◌, ◌↔◌, ℕ, zero, suc, List, [], ◌∷◌, length, Option, Some, None, slice_get, slice_get-get_or, ap, arith, ints, pos, ◌≤ℤ◌, pos-*ℤ-pos, mul-le-mul_right, div_ceil, div_ceil_times}
use Rattle.prl_plan.specs.declared.graphs.Task.{Task}
use Rattle.prl_plan.specs.Vocabulary.{encoded_release, encoded_deadline, task_at, no_task, deadline_of, job_count, IsHorizonJob, PlanView, IsPlan, release_at, deadline_at}
use Rattle.prl_plan.proofs.DatePeriods.{jobs_are, least_repeat, greatest_repeat}
use Rattle.prl_plan.proofs.RoundPeriods.{task_is}
use Rattle.prl_ages.specs.Ages.{released, due_by}
use Rattle.prl_tables.specs.Tables.{classes}
use Rattle.prl_table.specs.Made.{cut_from, greatest_start, hypers_before}

-- the horizon jobs of a task are counted
abbrev pub AreCounted : PlanView → Type 0
AreCounted plan = (until i n : ℕ) → i < length plan.graph.tasks → 0 < (task_at plan.graph i).clock.period →
    IsHorizonJob plan.graph until i n ↔ (n < job_count (task_at plan.graph i) until)

-- no task starts after the greatest start
starts_by : (tasks : List Task) (i : ℕ) (task : Task) → slice_get tasks i ≡ Some task → task.clock.start ≤ greatest_start tasks
starts_by [] i task at = (let e : ◌≡◌ {A = Option Task} None (Some task) = at in cc)
starts_by (first ∷ rest) zero task at = (let e : ◌≡◌ {A = Option Task} (Some first) (Some task) = at in let same : first ≡ task = cc in let s = ap (λ (t : Task). t.clock.start) same in omega (arith, s))
starts_by (first ∷ rest) (suc i) task at = (let r = starts_by rest i task at in omega (arith, r))

module _ (plan : PlanView) (is : IsPlan plan) where
  pub release_later : (i n : ℕ) → i < length plan.graph.tasks → release_at plan i (n + classes plan.graph i) ≡ release_at plan i n + plan.graph.hyper
  release_later i n inside =
      let r = (least_repeat plan.graph is.graph (encoded_release plan.graph plan.windows) is.dates.releases).again i (classes plan.graph i) inside (jobs_are plan.graph is.graph i inside) (pos n) in
      omega (arith, ints, r)

  pub deadline_later : (i n : ℕ) → i < length plan.graph.tasks → deadline_at plan i (n + classes plan.graph i) ≡ deadline_at plan i n + plan.graph.hyper
  deadline_later i n inside =
      let d = (greatest_repeat plan.graph is.graph (encoded_deadline plan.graph plan.windows) is.dates.deadlines).again i (classes plan.graph i) inside (jobs_are plan.graph is.graph i inside) (pos n) in
      omega (arith, ints, d)

  -- and so do its own
  pub own_later : (i n : ℕ) → i < length plan.graph.tasks → released plan.graph i (n + classes plan.graph i) ≡ released plan.graph i n + plan.graph.hyper
  own_later i n inside =
      let hyper = jobs_are plan.graph is.graph i inside in
      let split : (n + classes plan.graph i) * (task_at plan.graph i).clock.period ≡ n * (task_at plan.graph i).clock.period + classes plan.graph i * (task_at plan.graph i).clock.period = omega arith in
      omega (arith, hyper, split)

  -- a job is due after it is released
  pub window : (i n : ℕ) → i < length plan.graph.tasks → release_at plan i n < deadline_at plan i n
  window i n inside =
      (let room = is.room.room i (pos n) inside in let wcet = (task_is plan.graph is.graph i inside).wcet.0 in omega (arith, ints, room, wcet))

  -- the hyperperiod that is cut out begins a hyperperiod after all tasks have started
  pub cut_late : greatest_start plan.graph.tasks + plan.graph.hyper ≤ cut_from plan
  cut_late =
      let some = is.graph.hyper in
      let up = (div_ceil_times (greatest_start plan.graph.tasks) plan.graph.hyper some).0 in
      let whole : hypers_before plan.graph * plan.graph.hyper ≡ plan.graph.hyper + div_ceil (greatest_start plan.graph.tasks) plan.graph.hyper * plan.graph.hyper = omega arith in
      omega (arith, up, whole)

  -- by then the jobs of the first hyperperiod are due
  pub first_due : (i n : ℕ) → i < length plan.graph.tasks → n < classes plan.graph i → deadline_at plan i n ≤ cut_from plan
  first_due i n inside below =
      let before : encoded_deadline plan.graph plan.windows i (pos n) ≤ℤ deadline_of (task_at plan.graph i) (pos n) = is.dates.deadlines.deadlines.below i (pos n) inside in
      let due = (task_is plan.graph is.graph i inside).due.1 in
      let times = mul-le-mul_right (task_at plan.graph i).clock.period (let g : n + 1 ≤ classes plan.graph i = omega (arith, below) in g) in
      let split : (n + 1) * (task_at plan.graph i).clock.period ≡ n * (task_at plan.graph i).clock.period + (task_at plan.graph i).clock.period = omega arith in
      let hyper = jobs_are plan.graph is.graph i inside in
      let started = starts_by plan.graph.tasks i (task_at plan.graph i) (slice_get-get_or plan.graph.tasks i no_task inside) in
      let product = pos-*ℤ-pos n (task_at plan.graph i).clock.period in
      omega (arith, ints, before, due, times, split, hyper, product, started, cut_late)

  -- a job that is released before the end of a horizon is one of its jobs
  pub in_horizon : AreCounted plan → (until i n : ℕ) → i < length plan.graph.tasks → release_at plan i n < until → n < job_count (task_at plan.graph i) until
  in_horizon counted until i n inside early = (counted until i n inside (task_is plan.graph is.graph i inside).period.0).0 (record {
    task = inside;
    early = (let above = is.dates.releases.releases.above i (pos n) inside in
        let product = pos-*ℤ-pos n (task_at plan.graph i).clock.period in
        omega (arith, ints, above, early, product));
  })
