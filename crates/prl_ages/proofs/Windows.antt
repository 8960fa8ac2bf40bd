-- What is told of a task by the jobs that are looked at.
use Rattle.prl_base.proofs.Standard.{Bool, true, false, ◌≡◌, ◌≢◌, ◌+◌, ◌-◌, ◌*◌, ◌<◌, ◌≤◌, ◌⊎◌, inl, inr, List, ℕ, zero, suc, length, set, slice_index, get_or-set_same, get_or-set_other, length-set, replicate, length-replicate, refl, sym, ◌∙◌, ap, subst, arith, Option, Some, None, cases_eq, cases_lt, min, mul-le-mul_right}
use Rattle.prl_base.specs.declared.numbers.TaskNo.{TaskNo}
use Rattle.prl_plan.specs.declared.graphs.TaskGraph.{TaskGraph}
use Rattle.prl_plan.specs.declared.limits.TheConstants.{MAX_JOBS, MAX_PREFIX}
use Rattle.prl_plan.specs.Vocabulary.{IsWellFormed}
use Rattle.prl_ages.specs.Reaching.{Reaches, IsFreshest, jobs_of}
use Rattle.prl_ages.specs.Ages.{released}
use Rattle.prl_ages.specs.Needs.{AreNeeded}
use Rattle.prl_ages.specs.Spans.{IsAgeAt, IsNotOlder, IsNotNewer, IsWorstOf, IsBestOf}
use Rattle.prl_ages.specs.Verdicts.{AreAges, AreVerdicts, IsLate, IsVerdict, IsWorst, verdict_at}
use Rattle.prl_ages.specs.code.Extremes.{IsExtreme, extremes_at}
use Rattle.prl_ages.specs.code.Lags.{AreAllLags, IsLag, lag_at}
use Rattle.prl_ages.specs.code.Windows.{AreAllCounted, AreVerdictsUpTo, AreWindows, IsReady, known, known_ages, verdict_of}
use Rattle.prl_ages.specs.declared.ages.Age.{Age}
use Rattle.prl_ages.specs.declared.ages.Until.{Until}
use Rattle.prl_ages.specs.declared.ages.Until.TheVariants as untils
use Rattle.prl_ages.specs.declared.spans.Extremes.{Extremes}
use Rattle.prl_ages.specs.declared.verdicts.Verdict.{Verdict}
use Rattle.prl_ages.specs.declared.verdicts.Verdict.TheVariants as verdicts
use Rattle.prl_ages.proofs.Falling.{some_jobs, first_show_all}
use Rattle.prl_ages.proofs.Reaching.{rises}
use Rattle.prl_ages.proofs.Settled.{settled_is, best_is}
use Rattle.prl_ages.proofs.SpanJobs.{none_reaches}

-- from its lag on each job is reached
pub reached_from : (graph : TaskGraph) (chain : List TaskNo) (a s lag l : ℕ) → IsLag graph chain a s lag → lag * jobs_of graph a ≤ l → (m : ℕ) × Reaches graph chain s m a l
reached_from graph chain a s lag l is past =
    let e : lag + 0 ≡ lag = omega arith in
    let r = is.reaches 0 l (subst (λ (x : ℕ). x * jobs_of graph a ≤ l) (sym e) past) in
    (r.0, r.2)

-- where all are counted, all reach
pub all_ready : (graph : TaskGraph) (chain : List TaskNo) (a most k : ℕ) (lags : List (Option ℕ)) (counts : List ℕ) → AreNeeded graph chain a k counts → AreAllCounted lags counts →
    IsReady graph chain a lags most k
all_ready graph chain a most k lags counts needed all =
    inl (λ s lag at. (slice_index counts s - 1, needed.reached s (slice_index counts s - 1) (let some = all s lag at in omega (arith, some))))

-- not past the least of two numbers
pub enough_jobs : (turns per most : ℕ) → most ≡ min (turns * per) (200000 - per) → (turns * per ≤ most) ⊎ (MAX_JOBS ≤ most + per)
enough_jobs turns per most is = elim (cases_lt most (turns * per)) [
  | inl less ↦ inr (omega (arith, is, less))
  | inr more ↦ inl more
]

module _ (graph : TaskGraph) (chain : List TaskNo) (good : IsWellFormed graph) (a turns ready : ℕ) (lags : List (Option ℕ)) (counts : List ℕ) (first settled : List Extremes)
    (in_a : a < length graph.tasks) (windows : AreWindows graph chain a turns ready lags counts first settled) (s : ℕ) (in_s : s < length graph.tasks) where
  -- an instance reaches job ready where jobs of the task are counted
  counted_reaches : (n : ℕ) → slice_index counts s ≡ suc n → Reaches graph chain s n a ready
  counted_reaches n is = windows.counted.reached s n (is ∙ (let e : suc n ≡ n + 1 = omega arith in e))

  -- it is late where none are
  is_late : (lag : ℕ) → lag_at lags s ≡ Some lag → slice_index counts s ≡ 0 → IsLate graph chain s a ready
  is_late lag at zero_is = record { not_yet = never; later = (found.0, lag * jobs_of graph a, after, found.1); many = at_end windows.ready_is }
    where
      never : (m : ℕ) → Reaches graph chain s m a ready → ⊥
      never m reaches = none_reaches graph chain a ready s m counts windows.counted zero_is reaches

      is_lag : IsLag graph chain a s lag
      is_lag = windows.known.each s lag at

      found : (m : ℕ) × Reaches graph chain s m a (lag * jobs_of graph a)
      found = reached_from graph chain a s lag (lag * jobs_of graph a) (windows.known.each s lag at) (omega arith)

      after : ready < lag * jobs_of graph a
      after = elim (cases_lt ready (lag * jobs_of graph a)) [
        | inl less ↦ less
        | inr more ↦ (let r = reached_from graph chain a s lag ready (windows.known.each s lag at) more in absurd (never r.0 r.1))
      ]

      within : lag * jobs_of graph a ≤ turns * jobs_of graph a
      within = mul-le-mul_right (jobs_of graph a) (windows.within s lag at)

      at_last : ready ≡ windows.most → (turns * jobs_of graph a ≤ windows.most) ⊎ (MAX_JOBS ≤ windows.most + jobs_of graph a) → MAX_JOBS ≤ ready + jobs_of graph a
      at_last last (inl all) = absurd (omega (arith, last, all, within, after))
      at_last last (inr many) = omega (arith, last, many)

      at_end : IsReady graph chain a lags windows.most ready → MAX_JOBS ≤ ready + jobs_of graph a
      at_end (inl all) = (let r = all s lag at in absurd (never r.0 r.1))
      at_end (inr last) = at_last last windows.enough

  -- an age of a span that is reached is known
  some_worst : (until : Until) (from to k m : ℕ) (worst : Option Age) → IsWorstOf graph chain s a until from to worst → from ≤ k → k < to → Reaches graph chain s m a k →
      (age : Age) × (worst ≡ Some age)
  some_worst until from to k m (Some worst) of past below reaches = (worst, refl)
  some_worst until from to k m None of past below reaches = go (of.each k past below).0 (of.each k past below).1 (of.each k past below).2
    where
      go : (age : Option Age) → IsAgeAt graph chain s a until k age → IsNotOlder age None → (age : Age) × (None ≡ Some age)
      go None at older = absurd (at m reaches)
      go (Some age) at older = absurd older

  some_best : (until : Until) (from to k m : ℕ) (best : Option Age) → IsBestOf graph chain s a until from to best → from ≤ k → k < to → Reaches graph chain s m a k →
      (age : Age) × (best ≡ Some age)
  some_best until from to k m (Some best) of past below reaches = (best, refl)
  some_best until from to k m None of past below reaches = go (of.each k past below).0 (of.each k past below).1 (of.each k past below).2
    where
      go : (age : Option Age) → IsAgeAt graph chain s a until k age → IsNotNewer age None → (age : Age) × (None ≡ Some age)
      go None at newer = absurd (at m reaches)
      go (Some age) at newer = absurd newer

  worst_of : (until : Until) (m : ℕ) (worst : Age) → Reaches graph chain s m a ready → IsWorstOf graph chain s a until 0 (ready + jobs_of graph a) (Some worst) → IsWorst graph chain s a until worst
  worst_of until m worst reaches of = record {
    worst = first_show_all graph chain good s a until in_s in_a (ready + jobs_of graph a) worst m ready reaches (omega arith) of;
    fresh = of.attained.2.1;
    ticks = of.attained.2.2;
  }

  -- else the ages are those of all jobs
  is_known : (lag m : ℕ) → lag_at lags s ≡ Some lag → Reaches graph chain s m a ready → IsVerdict graph chain s a (known ready (extremes_at first s) (extremes_at settled s))
  is_known lag m at reaches =
      let before : IsExtreme graph chain s a 0 (ready + jobs_of graph a) (extremes_at first s) = windows.early.each s in_s in
      let after : IsExtreme graph chain s a (turns * jobs_of graph a) (turns * jobs_of graph a + jobs_of graph a) (extremes_at settled s) = windows.late.each s in_s in
      let some = some_jobs graph good a in_a in
      let from : (l : ℕ) → turns * jobs_of graph a ≤ l → (x : ℕ) × Reaches graph chain s x a l =
      λ l late. reached_from graph chain a s lag l (windows.known.each s lag at) (omega (arith, late, mul-le-mul_right (jobs_of graph a) (windows.within s lag at))) in
      let there = from (turns * jobs_of graph a) (omega arith) in
      let used = some_worst untils.Used 0 (ready + jobs_of graph a) ready m (extremes_at first s).used before.used (omega arith) (omega (arith, some)) reaches in
      let replaced = some_worst untils.Replaced 0 (ready + jobs_of graph a) ready m (extremes_at first s).replaced before.replaced (omega arith) (omega (arith, some)) reaches in
      let late = some_worst untils.Used (turns * jobs_of graph a) (turns * jobs_of graph a + jobs_of graph a) (turns * jobs_of graph a) there.0 (extremes_at settled s).used after.used (omega arith) (omega (arith, some)) there.1 in
      let best = some_best untils.Used (turns * jobs_of graph a) (turns * jobs_of graph a + jobs_of graph a) (turns * jobs_of graph a) there.0 (extremes_at settled s).best after.best (omega arith) (omega (arith, some)) there.1 in
      let ages : AreAges graph chain s a (record { used = used.0; replaced = replaced.0; settled = late.0.ticks; best = best.0.ticks }) = record {
        used = worst_of untils.Used m used.0 reaches (subst (λ (x : Option Age). IsWorstOf graph chain s a untils.Used 0 (ready + jobs_of graph a) x) used.1 before.used);
        replaced = worst_of untils.Replaced m replaced.0 reaches (subst (λ (x : Option Age). IsWorstOf graph chain s a untils.Replaced 0 (ready + jobs_of graph a) x) replaced.1 before.replaced);
        settled = settled_is graph chain good s a turns in_s in_a windows.settled_after late.0
            (subst (λ (x : Option Age). IsWorstOf graph chain s a untils.Used (turns * jobs_of graph a) (turns * jobs_of graph a + jobs_of graph a) x) late.1 after.used);
        best = best_is graph chain good s a turns in_s in_a windows.settled_after best.0 from
            (subst (λ (x : Option Age). IsBestOf graph chain s a untils.Used (turns * jobs_of graph a) (turns * jobs_of graph a + jobs_of graph a) x) best.1 after.best);
      } in
      subst (λ (x : Option Age). IsVerdict graph chain s a (known_ages ready x (extremes_at first s).replaced (extremes_at settled s).used (extremes_at settled s).best)) (sym used.1)
      (subst (λ (x : Option Age). IsVerdict graph chain s a (known_ages ready (Some used.0) x (extremes_at settled s).used (extremes_at settled s).best)) (sym replaced.1)
      (subst (λ (x : Option Age). IsVerdict graph chain s a (known_ages ready (Some used.0) (Some replaced.0) x (extremes_at settled s).best)) (sym late.1)
      (subst (λ (x : Option Age). IsVerdict graph chain s a (known_ages ready (Some used.0) (Some replaced.0) (Some late.0) x)) (sym best.1) ages)))

  pub verdict_is : (lag : Option ℕ) (count : ℕ) → lag_at lags s ≡ lag → slice_index counts s ≡ count →
      IsVerdict graph chain s a (verdict_of lag ready count (extremes_at first s) (extremes_at settled s))
  verdict_is None count at is = λ m k reaches. windows.known.never s at m k reaches
  verdict_is (Some lag) zero at is = is_late lag at is
  verdict_is (Some lag) (suc n) at is = is_known lag n at (counted_reaches n is)

-- task by task
module _ (graph : TaskGraph) (chain : List TaskNo) (a : ℕ) where
  never_at : (n s : ℕ) → verdict_at (replicate n verdicts.Never) s ≡ verdicts.Never
  never_at zero s = refl
  never_at (suc n) zero = refl
  never_at (suc n) (suc s) = never_at n s

  pub none_told : (n : ℕ) → n ≡ length graph.tasks → AreVerdictsUpTo graph chain a 0 (replicate n verdicts.Never)
  none_told n is = record { long = length-replicate n verdicts.Never ∙ is; each = λ s below. absurd (omega (arith, below)) }

  pub one_told : (s : ℕ) (list : List Verdict) (verdict : Verdict) → AreVerdictsUpTo graph chain a s list → s < length graph.tasks → IsVerdict graph chain s a verdict →
      AreVerdictsUpTo graph chain a (s + 1) (set list s verdict)
  one_told s list verdict are inside is = record { long = length-set list s verdict ∙ are.long; each = λ t below. now t below (cases_eq t s) }
    where
      now : (t : ℕ) → t < s + 1 → (t ≡ s) ⊎ (t ≢ s) → IsVerdict graph chain t a (verdict_at (set list s verdict) t)
      now t below (inl same) =
          subst (λ (y : ℕ). IsVerdict graph chain y a (verdict_at (set list s verdict) y)) (sym same)
          (subst (λ (y : Verdict). IsVerdict graph chain s a y) (sym (get_or-set_same list s verdict verdicts.Never (omega (arith, are.long, inside)))) is)
      now t below (inr other) =
          subst (λ (y : Verdict). IsVerdict graph chain t a y) (sym (get_or-set_other list s t verdict verdicts.Never other)) (are.each t (omega (arith, below, other)))

  pub all_told : (n : ℕ) (list : List Verdict) → length graph.tasks ≤ n → AreVerdictsUpTo graph chain a n list → AreVerdicts graph chain a list
  all_told n list all are = record { long = are.long; each = λ s inside. are.each s (omega (arith, inside, all)) }
