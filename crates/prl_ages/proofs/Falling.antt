-- A hyperperiod later an age is no higher, so the worst age of the first jobs is that of all jobs.
use Rattle.prl_base.proofs.Standard.{◌≡◌, ◌+◌, ◌-◌, ◌*◌, ◌<◌, ◌≤◌, ◌^◌, ◌⊎◌, inl, inr, List, ℕ, zero, suc, length, refl, sym, ◌∙◌, ap, subst, arith, Option, Some, None, cases_lt, mul-le-mul_right}
use Rattle.prl_base.specs.declared.numbers.TaskNo.{TaskNo}
use Rattle.prl_plan.specs.declared.graphs.TaskGraph.{TaskGraph}
use Rattle.prl_plan.specs.declared.limits.TheConstants.{MAX_PREFIX}
use Rattle.prl_plan.specs.Vocabulary.{task_at, IsWellFormed}
use Rattle.prl_plan.proofs.DatePeriods.{jobs_are}
use Rattle.prl_plan.proofs.RoundPeriods.{task_is}
use Rattle.prl_ages.specs.Reaching.{Reaches, IsFreshest, jobs_of}
use Rattle.prl_ages.specs.Ages.{released, due_by, age_of, jobs_later, IsWorstAge}
use Rattle.prl_ages.specs.Spans.{IsAgeAt, IsNotOlder, IsWorstOf}
use Rattle.prl_ages.specs.declared.ages.Age.{Age}
use Rattle.prl_ages.specs.declared.ages.Until.{Until}
use Rattle.prl_ages.proofs.Reaching.{rises, repeats, not_later}

-- dates are small
module _ (graph : TaskGraph) (good : IsWellFormed graph) where
  pub released_rises : (i n l : ℕ) → n ≤ l → released graph i n ≤ released graph i l
  released_rises i n l past = omega (arith, mul-le-mul_right (task_at graph i).clock.period past)

  pub due_small : (i : ℕ) → i < length graph.tasks → (task_at graph i).due < 2 ^ 31
  due_small i inside =
      let t = task_is graph good i inside in
      omega (arith, t.due.1, t.period.1)

  -- what reaches a job is released before the value counts no longer
  pub before_due : (chain : List TaskNo) (s m a k later : ℕ) → Reaches graph chain s m a k → released graph s m ≤ due_by graph a (k + later)
  before_due chain s m a k later reaches =
      let e : k ≤ k + later = omega arith in
      omega (arith, not_later graph chain good s m a k reaches, mul-le-mul_right (task_at graph a).clock.period e)

-- jobs of one task
module _ (graph : TaskGraph) (good : IsWellFormed graph) (a : ℕ) (in_a : a < length graph.tasks) where
  pub released_often : (turns n : ℕ) → released graph a (n + turns * jobs_of graph a) ≡ released graph a n + turns * graph.hyper
  released_often turns n =
      let h : graph.hyper ≡ jobs_of graph a * (task_at graph a).clock.period = jobs_are graph good a in_a in
      let e : (n + turns * jobs_of graph a) * (task_at graph a).clock.period ≡ n * (task_at graph a).clock.period + turns * (jobs_of graph a * (task_at graph a).clock.period) = omega arith in
      let f : turns * graph.hyper ≡ turns * (jobs_of graph a * (task_at graph a).clock.period) = ap (λ (x : ℕ). turns * x) h in
      omega (arith, e, f)

  -- jobs of so many hyperperiods are released at small dates
  pub released_small : (turns n : ℕ) → turns ≤ 64 * 1000000 + 1 → n ≤ turns * jobs_of graph a → released graph a n < 2 ^ 62
  released_small turns n few within =
      let zero_at : released graph a (0 + turns * jobs_of graph a) ≡ released graph a 0 + turns * graph.hyper = released_often turns 0 in
      let from : released graph a 0 ≡ (task_at graph a).clock.start = omega arith in
      let times : turns * graph.hyper ≤ (64 * 1000000 + 1) * graph.hyper = mul-le-mul_right graph.hyper few in
      omega (arith, released_rises graph good a n (0 + turns * jobs_of graph a) (omega (arith, within)), zero_at, from, times, good.few_ticks, (task_is graph good a in_a).start)

  -- and those of as many as the tasks' constants last, and one more
  pub within_small : (turns per n : ℕ) → turns ≤ length graph.tasks * MAX_PREFIX → per ≡ jobs_of graph a → n ≤ turns * per + per → released graph a n < 2 ^ 62
  within_small turns per n few is within =
      let same : turns * per ≡ turns * jobs_of graph a = ap (λ (x : ℕ). turns * x) is in
      let split : (turns + 1) * jobs_of graph a ≡ turns * jobs_of graph a + jobs_of graph a = omega arith in
      let most = mul-le-mul_right MAX_PREFIX good.few_tasks in
      released_small (turns + 1) n (omega (arith, few, most)) (omega (arith, within, same, split, is))

  pub some_jobs : 1 ≤ jobs_of graph a
  some_jobs = go (jobs_of graph a) refl
    where
      go : (n : ℕ) → jobs_of graph a ≡ n → 1 ≤ jobs_of graph a
      go zero is =
          let h : graph.hyper ≡ jobs_of graph a * (task_at graph a).clock.period = jobs_are graph good a in_a in
          let z : jobs_of graph a * (task_at graph a).clock.period ≡ 0 * (task_at graph a).clock.period = ap (λ (x : ℕ). x * (task_at graph a).clock.period) is in
          absurd (let y : 0 * (task_at graph a).clock.period ≡ 0 = omega arith in omega (arith, h, z, y, good.hyper))
      go (suc n) is = omega (arith, is)

  -- each job is some turns after one of the last hyperperiod below a bound
  pub back_to : (jobs k : ℕ) → jobs_of graph a ≤ jobs → jobs ≤ k → (turns : ℕ) × (l : ℕ) × (k ≡ l + turns * jobs_of graph a) × (l < jobs) × (jobs ≤ l + jobs_of graph a)
  back_to jobs k room past = go k k (omega arith) past
    where
      go : (fuel k : ℕ) → k ≤ fuel → jobs ≤ k → (turns : ℕ) × (l : ℕ) × (k ≡ l + turns * jobs_of graph a) × (l < jobs) × (jobs ≤ l + jobs_of graph a)
      go zero k small past = absurd (omega (arith, small, past, room, some_jobs))
      go (suc fuel) k small past =
          elim (cases_lt (k - jobs_of graph a) jobs) [
            | inl below ↦
                (let e : k ≡ k - jobs_of graph a + 1 * jobs_of graph a = omega (arith, past, room) in
                (1, k - jobs_of graph a, e, below, omega (arith, past, room)))
            | inr above ↦
                (let rest = go fuel (k - jobs_of graph a) (omega (arith, small, some_jobs, past)) above in
                let e : k ≡ rest.1 + suc rest.0 * jobs_of graph a = (let f : suc rest.0 * jobs_of graph a ≡ rest.0 * jobs_of graph a + jobs_of graph a = omega arith in omega (arith, rest.2, f, past, room)) in
                (suc rest.0, rest.1, e, rest.3, rest.4))
          ]

module _ (graph : TaskGraph) (chain : List TaskNo) (good : IsWellFormed graph) (s a : ℕ) (until : Until) (in_s : s < length graph.tasks) (in_a : a < length graph.tasks) where
  -- so many hyperperiods later
  repeats_often : (turns m k : ℕ) → Reaches graph chain s m a k → Reaches graph chain s (m + turns * jobs_of graph s) a (k + turns * jobs_of graph a)
  repeats_often zero m k reaches =
      let e : m ≡ m + 0 * jobs_of graph s = omega arith in
      let f : k ≡ k + 0 * jobs_of graph a = omega arith in
      subst (λ (x : ℕ). Reaches graph chain s x a (k + 0 * jobs_of graph a)) e (subst (λ (x : ℕ). Reaches graph chain s m a x) f reaches)
  repeats_often (suc turns) m k reaches =
      let e : m + turns * jobs_of graph s + jobs_of graph s ≡ m + suc turns * jobs_of graph s = omega arith in
      let f : k + turns * jobs_of graph a + jobs_of graph a ≡ k + suc turns * jobs_of graph a = omega arith in
      subst (λ (x : ℕ). Reaches graph chain s x a (k + suc turns * jobs_of graph a)) e
      (subst (λ (x : ℕ). Reaches graph chain s (m + turns * jobs_of graph s + jobs_of graph s) a x) f
      (repeats graph chain good s (m + turns * jobs_of graph s) a (k + turns * jobs_of graph a) (repeats_often turns m k reaches)))

  -- so many hyperperiods later an age is no higher
  pub falls_often : (turns m k later : ℕ) → Reaches graph chain s m a k → IsFreshest graph chain s later a (k + turns * jobs_of graph a) →
      age_of graph s later a until (k + turns * jobs_of graph a) ≤ age_of graph s m a until k
  falls_often turns m k later reaches fresh =
      let up : m + turns * jobs_of graph s ≤ later = fresh.latest (m + turns * jobs_of graph s) (repeats_often turns m k reaches) in
      let from = released_often graph good s in_s turns m in
      let same : k + turns * jobs_of graph a + jobs_later until ≡ k + jobs_later until + turns * jobs_of graph a = omega arith in
      let till : due_by graph a (k + turns * jobs_of graph a + jobs_later until) ≡ due_by graph a (k + jobs_later until) + turns * graph.hyper =
      ap (λ (x : ℕ). due_by graph a x) same ∙ (let e = released_often graph good a in_a turns (k + jobs_later until) in omega (arith, e)) in
      omega (arith, from, till, released_rises graph good s (m + turns * jobs_of graph s) later up)

  -- the age at a job below the bound is within the worst
  pub within_below : (jobs k m : ℕ) (worst : Age) (age : Option Age) → IsAgeAt graph chain s a until k age → IsNotOlder age (Some worst) → Reaches graph chain s m a k →
      (f : ℕ) × IsFreshest graph chain s f a k × (age_of graph s f a until k ≤ worst.ticks)
  within_below jobs k m worst None at older reaches = absurd (at m reaches)
  within_below jobs k m worst (Some age) at older reaches = (age.instance, at.1, omega (arith, at.2, older))

  pub first_show_all : (jobs : ℕ) (worst : Age) (m k : ℕ) → Reaches graph chain s m a k → k + jobs_of graph a ≤ jobs → IsWorstOf graph chain s a until 0 jobs (Some worst) →
      IsWorstAge graph chain s a until worst.ticks
  first_show_all jobs worst m k reaches room below = record {
    above = λ l f fresh. above_now l f fresh (cases_lt l jobs);
    attained = (worst.job, worst.instance, below.attained.2.1, below.attained.2.2);
  }
    where
      above_now : (l f : ℕ) → IsFreshest graph chain s f a l → (l < jobs) ⊎ (jobs ≤ l) → age_of graph s f a until l ≤ worst.ticks
      above_now l f fresh (inl less) =
          let each = below.each l (omega arith) less in
          let found = within_below jobs l f worst each.0 each.1 each.2 fresh.reaches in
          let one : found.0 ≤ f = fresh.latest found.0 found.1.reaches in
          let other : f ≤ found.0 = found.1.latest f fresh.reaches in
          let same : f ≡ found.0 = omega (arith, one, other) in
          omega (arith, found.2, ap (λ (x : ℕ). age_of graph s x a until l) same)
      above_now l f fresh (inr past) =
          let back = back_to graph good a in_a jobs l (omega (arith, room)) past in
          let up = rises graph chain good s m a k back.1 reaches (omega (arith, room, back.4)) in
          let each = below.each back.1 (omega arith) back.3 in
          let found = within_below jobs back.1 up.0 worst each.0 each.1 each.2 up.2 in
          let late : IsFreshest graph chain s f a (back.1 + back.0 * jobs_of graph a) = subst (λ (x : ℕ). IsFreshest graph chain s f a x) back.2 fresh in
          let falls = falls_often back.0 found.0 back.1 f found.1.reaches late in
          omega (arith, falls, found.2, ap (λ (x : ℕ). age_of graph s f a until x) back.2)

  pub falls : (m k later : ℕ) → IsFreshest graph chain s m a k → IsFreshest graph chain s later a (k + jobs_of graph a) →
      age_of graph s later a until (k + jobs_of graph a) ≤ age_of graph s m a until k
  falls m k later fresh fresher =
      let e : k + jobs_of graph a ≡ k + 1 * jobs_of graph a = omega arith in
      let f = falls_often 1 m k later fresh.reaches (subst (λ (x : ℕ). IsFreshest graph chain s later a x) e fresher) in
      omega (arith, f, ap (λ (x : ℕ). age_of graph s later a until x) e)
