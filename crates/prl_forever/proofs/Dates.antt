-- The dates of jobs that a plan has in its hyperperiods.
use Rattle.prl_base.proofs.Standard.{◌≡◌, ◌+◌, ◌*◌, ◌<◌, ◌≤◌, ◌↔◌, ℕ, length, ap, inl, inr, arith, ints, pos, ◌≤ℤ◌, pos-*ℤ-pos, mul-le-mul_right, cases_lt}
use Rattle.prl_plan.specs.Vocabulary.{encoded_release, encoded_deadline, task_at, deadline_of, job_count, IsHorizonJob, PlanView, IsPlan, release_at, deadline_at}
use Rattle.prl_plan.proofs.DatePeriods.{jobs_are, least_repeat, greatest_repeat}
use Rattle.prl_plan.proofs.RoundPeriods.{task_is}
use Rattle.prl_tables.specs.Tables.{classes}

module _ (plan : PlanView) (is : IsPlan plan) where
  pub release_later : (i n : ℕ) → i < length plan.graph.tasks → release_at plan i (n + classes plan.graph i) ≡ release_at plan i n + plan.graph.hyper
  release_later i n inside =
      let r = (least_repeat plan.graph is.graph (encoded_release plan.graph plan.windows) is.dates.releases).again i (classes plan.graph i) inside (jobs_are plan.graph is.graph i inside) (pos n) in
      omega (arith, ints, r)

  pub deadline_later : (i n : ℕ) → i < length plan.graph.tasks → deadline_at plan i (n + classes plan.graph i) ≡ deadline_at plan i n + plan.graph.hyper
  deadline_later i n inside =
      let d = (greatest_repeat plan.graph is.graph (encoded_deadline plan.graph plan.windows) is.dates.deadlines).again i (classes plan.graph i) inside (jobs_are plan.graph is.graph i inside) (pos n) in
      omega (arith, ints, d)

  -- a job is due after it is released
  pub window : (i n : ℕ) → i < length plan.graph.tasks → release_at plan i n < deadline_at plan i n
  window i n inside =
      (let room = is.room.room i (pos n) inside in let wcet = (task_is plan.graph is.graph i inside).wcet.0 in omega (arith, ints, room, wcet))

  -- the jobs of the first q hyperperiods are due by q hyperperiods after all tasks have started
  pub due_by : (i n q start : ℕ) → i < length plan.graph.tasks → (task_at plan.graph i).clock.start ≤ start → n < q * classes plan.graph i →
      deadline_at plan i n ≤ start + q * plan.graph.hyper
  due_by i n q start inside started below =
      let before : encoded_deadline plan.graph plan.windows i (pos n) ≤ℤ deadline_of (task_at plan.graph i) (pos n) = is.dates.deadlines.deadlines.below i (pos n) inside in
      let due = (task_is plan.graph is.graph i inside).due.1 in
      let times = mul-le-mul_right (task_at plan.graph i).clock.period (let g : n + 1 ≤ q * classes plan.graph i = omega (arith, below) in g) in
      let split : (n + 1) * (task_at plan.graph i).clock.period ≡ n * (task_at plan.graph i).clock.period + (task_at plan.graph i).clock.period = omega arith in
      let hyper = jobs_are plan.graph is.graph i inside in
      let by = ap (λ (x : ℕ). q * x) hyper in
      let all : q * classes plan.graph i * (task_at plan.graph i).clock.period ≡ q * (classes plan.graph i * (task_at plan.graph i).clock.period) = omega arith in
      let product = pos-*ℤ-pos n (task_at plan.graph i).clock.period in
      omega (arith, ints, before, due, times, split, by, all, product, started)

  -- a job that is not of the horizon is not released before its end
  pub released_past : (until i n : ℕ) → (IsHorizonJob plan.graph until i n ↔ (n < job_count (task_at plan.graph i) until)) → i < length plan.graph.tasks →
      job_count (task_at plan.graph i) until ≤ n → until ≤ release_at plan i n
  released_past until i n counted inside past = elim (cases_lt (release_at plan i n) until) [
    | inr late ↦ late
    | inl early ↦ absurd
        (let above = is.dates.releases.releases.above i (pos n) inside in
        let product = pos-*ℤ-pos n (task_at plan.graph i).clock.period in
        let below = counted.0 (record { task = inside; early = omega (arith, ints, above, early, product) }) in
        omega (arith, below, past))
  ]
