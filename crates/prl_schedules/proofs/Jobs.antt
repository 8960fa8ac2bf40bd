-- Jobs with their dates, and the runs that have them.
use Rattle.prl_base.proofs.Standard.{◌≡◌, ◌+◌, ◌*◌, ◌<◌, ◌≤◌, ◌^◌, ℕ, List, length, Option, Some, None, sym, ap, subst, arith, inl, inr, ◌↔◌, pos, ◌+ℤ◌, ◌*ℤ◌, ◌<ℤ◌, slice_index, cases_eq}
use Rattle.prl_base.proofs.Standard.{cases_lt, ints, slice_get-get_or, le-mul_of_pos_right}
use Rattle.prl_plan.specs.Vocabulary.{HasPlanFacts, IsJob, IsHorizonJob, job_count, no_task, task_at, IsPlan, PlanView, deadline_at, release_at, HasJob, IsUnfinished, first_unfinished, ExecState}
use Rattle.prl_plan.specs.Vocabulary.{RunConstants}
use Rattle.prl_plan.specs.declared.graphs.TaskGraph.{TaskGraph}
use Rattle.prl_base.specs.declared.operators.Clock.{Clock}
use Rattle.prl_schedules.specs.Vocabulary.{Next, IsEarly, IsLate, IsLeastBelow, IsPending, IsPendingJob, own_date}

-- the law that horizon jobs are counted
abbrev pub AreCounted : Type 0
AreCounted = (graph : TaskGraph) (until i n : ℕ) → i < length graph.tasks → 0 < (task_at graph i).clock.period →
    IsHorizonJob graph until i n ↔ (n < job_count (task_at graph i) until)

module _ (plan : PlanView) (counted : AreCounted) (i : ℕ) (inside : i < length plan.graph.tasks) (some : 0 < (task_at plan.graph i).clock.period) where
  -- a run has the jobs whose own date is below its end
  pub job_is_before : (until n : ℕ) → n < job_count (task_at plan.graph i) until → own_date plan i n < until
  job_is_before until n job =
      let is : IsHorizonJob plan.graph until i n = (counted plan.graph until i n inside some).1 job in
      let c = (task_at plan.graph i).clock in
      let e : (pos c.start +ℤ (pos n *ℤ pos c.period)) <ℤ pos until = is.early in
      omega (arith, ints, e)

  pub before_is_job : (until n : ℕ) → own_date plan i n < until → n < job_count (task_at plan.graph i) until
  before_is_job until n below =
      (counted plan.graph until i n inside some).0 (record { task = inside; early = omega (arith, ints, below) })

  pub before_horizon : (until n : ℕ) → own_date plan i n < until → IsHorizonJob plan.graph until i n
  before_horizon until n below = record { task = inside; early = omega (arith, ints, below) }

  -- a job with a late own date is in no run
  pub late : (n : ℕ) → 2 ^ 32 ≤ own_date plan i n + 1 → IsLate plan i n
  late n past = record {
    none = none;
    past = λ early. omega (arith, early, past);
  }
    where
      none : (until : ℕ) → until < 2 ^ 32 → job_count (task_at plan.graph i) until ≤ n
      none until small = elim (cases_lt n (job_count (task_at plan.graph i) until)) [
        | inl job ↦ absurd (let b = job_is_before until n job in omega (arith, b, past, small))
        | inr there ↦ there
      ]

  -- a job of a great number has one
  pub great : (n : ℕ) → 2 ^ 32 ≤ n → IsLate plan i n
  great n past = late n (let m = le-mul_of_pos_right n some in omega (arith, m, past))

  pub early : (until n : ℕ) → until < 2 ^ 32 → n < job_count (task_at plan.graph i) until → IsEarly plan i n
  early until n small job = (let b = job_is_before until n job in omega (arith, b, small))

module _ (c : RunConstants) (facts : HasPlanFacts c) (s : ExecState) where
  -- an unfinished job has no earlier dates than the first one of its task, which is one too
  pub first_is : (j n : ℕ) → IsUnfinished c s j n → HasJob c s j
  first_is j n left = record {
    task = left.task;
    job = (let b = left.job in let u = left.unfinished in omega (arith, b, u));
    unfinished = omega arith;
  }

  pub rises : (j n : ℕ) → IsUnfinished c s j n →
      (c.release j (first_unfinished s j) ≤ c.release j n) × (c.deadline j (first_unfinished s j) ≤ c.deadline j n)
  rises j n left = elim (cases_eq n (first_unfinished s j)) [
    | inl same ↦
        (let r = ap (λ (k : ℕ). c.release j k) same in
        let d = ap (λ (k : ℕ). c.deadline j k) same in
        (omega (arith, r), omega (arith, d)))
    | inr other ↦
        (let below = left.unfinished in
        let has = first_is j n left in
        let job : IsJob c j n = record { task = left.task; job = left.job } in
        let apart = facts.apart j (first_unfinished s j) n job (omega (arith, other, below)) in
        let later = facts.window j n job in
        let now = facts.window j (first_unfinished s j) (record { task = has.task; job = has.job }) in
        (omega (arith, apart, now), omega (arith, apart, later)))
  ]

-- the choice among the tasks up to one more
module _ (plan : PlanView) (tick : ℕ) (ended : List ℕ) (bound j : ℕ) where
  below_more : (P : ℕ → Type 0) → ((k : ℕ) → k < j → P k) → P j → (k : ℕ) → k < j + 1 → P k
  below_more P all here k below = elim (cases_lt k j) [
    | inl earlier ↦ all k earlier
    | inr past ↦ (let same : j ≡ k = omega (arith, below, past) in subst P same here)
  ]

  -- a task that has no pending job changes nothing
  pub least_stays : (best : Option Next) → IsLeastBelow plan tick ended bound j best → (IsPending plan tick ended bound j → ⊥) →
      IsLeastBelow plan tick ended bound (j + 1) best
  least_stays None is never = λ k below. below_more (λ k. IsPending plan tick ended bound k → ⊥) is never k below
  least_stays (Some next) is never = record {
    below = (let b = is.below in omega (arith, b));
    pending = is.pending;
    least = λ k below. below_more (λ k. IsPending plan tick ended bound k → next.own ≤ own_date plan k (slice_index ended k)) is.least
        (λ p. absurd (never p)) k below;
  }

  pub least_kept : (best next : Next) → IsLeastBelow plan tick ended bound j (Some best) → IsPendingJob plan tick ended bound j next → best.own ≤ next.own →
      IsLeastBelow plan tick ended bound (j + 1) (Some best)
  least_kept best next is pending earlier = record {
    below = (let b = is.below in omega (arith, b));
    pending = is.pending;
    least = λ k below. below_more (λ k. IsPending plan tick ended bound k → best.own ≤ own_date plan k (slice_index ended k)) is.least
        (λ p. (let o = pending.is_next.own in omega (arith, o, earlier))) k below;
  }

  of_task : (next : Next) → IsPendingJob plan tick ended bound j next → IsPendingJob plan tick ended bound next.job.task.0 next
  of_task next pending = subst (λ (k : ℕ). IsPendingJob plan tick ended bound k next) (sym pending.is_next.task) pending

  pub least_first : (next : Next) → IsLeastBelow plan tick ended bound j None → IsPendingJob plan tick ended bound j next →
      IsLeastBelow plan tick ended bound (j + 1) (Some next)
  least_first next none pending = record {
    below = (let t = pending.is_next.task in omega (arith, t));
    pending = of_task next pending;
    least = λ k below. below_more (λ k. IsPending plan tick ended bound k → next.own ≤ own_date plan k (slice_index ended k))
        (λ k earlier p. absurd (none k earlier p)) (λ p. (let o = pending.is_next.own in omega (arith, o))) k below;
  }

  pub least_earlier : (best next : Next) → IsLeastBelow plan tick ended bound j (Some best) → IsPendingJob plan tick ended bound j next → next.own < best.own →
      IsLeastBelow plan tick ended bound (j + 1) (Some next)
  least_earlier best next is pending earlier = record {
    below = (let t = pending.is_next.task in omega (arith, t));
    pending = of_task next pending;
    least = λ k below. below_more (λ k. IsPending plan tick ended bound k → next.own ≤ own_date plan k (slice_index ended k))
        (λ k before p. (let l = is.least k before p in omega (arith, l, earlier))) (λ p. (let o = pending.is_next.own in omega (arith, o))) k below;
  }

-- each task of a plan has a period
abbrev pub HavePeriods : PlanView → Type 0
HavePeriods plan = (i : ℕ) → i < length plan.graph.tasks → 0 < (task_at plan.graph i).clock.period

pub have_periods : (plan : PlanView) → IsPlan plan → HavePeriods plan
have_periods plan is i inside = (is.graph.tasks i (task_at plan.graph i) (slice_get-get_or plan.graph.tasks i no_task inside)).period.0

-- the dates of a job with an early own date fit
pub next_fits : (plan : PlanView) → IsPlan plan →
    ((plan : PlanView) → IsPlan plan → (until i n : ℕ) → until < 2 ^ 32 → IsHorizonJob plan.graph until i n →
    (release_at plan i n < 2 ^ 33) × (deadline_at plan i n < 2 ^ 33) × (n < 2 ^ 32)) →
    (i : ℕ) → i < length plan.graph.tasks → (n : ℕ) (clock : Clock) → clock ≡ (task_at plan.graph i).clock → clock.start + n * clock.period + 1 < 2 ^ 32 →
    (clock.start + n * clock.period ≡ own_date plan i n) × IsEarly plan i n × (release_at plan i n < 2 ^ 33) × (deadline_at plan i n < 2 ^ 33)
next_fits plan is law i inside n clock same below =
    let own : clock.start + n * clock.period ≡ own_date plan i n = ap (λ (k : Clock). k.start + n * k.period) same in
    let low : own_date plan i n + 1 < 2 ^ 32 = omega (arith, own, below) in
    let fit = law plan is (own_date plan i n + 1) i n low (record { task = inside; early = omega (arith, ints) }) in
    (own, low, fit.0, fit.1)
