-- Encoded dates do not fall from one job of a task to the next, over all whole numbers.
use Rattle.prl_base.proofs.Standard.{◌≡◌, ◌+◌, ◌-◌, ◌*◌, ◌<◌, ◌≤◌, ◌⊎◌, ℕ, zero, suc, length, inl, inr, refl, sym, ap, subst, arith, ℤ, pos, negsuc, ◌+ℤ◌, ◌-ℤ◌, ◌≤ℤ◌, List, cases_lt, ints}
use Rattle.prl_plan.specs.Vocabulary.{Edge, TaskGraph, Window, task_at, IsWellFormed, IsEdge, preceding, Precedes, PrecedesAlong, Family, AreReleases, AreLeastReleases, AreEncodedDates}
use Rattle.prl_plan.specs.Vocabulary.{encoded_deadline}
use Rattle.prl_plan.proofs.DatePeriods.{jobs_of, jobs_are, least_repeat}
use Rattle.prl_plan.proofs.Periods.{plus_mul}
use Rattle.prl_plan.proofs.ReaderLaws.{preceding_rises}
use Rattle.prl_plan.proofs.RoundLaws.{source_inside}
use Rattle.prl_plan.proofs.RoundPeriods.{task_is}

cases_le : (a b : ℤ) → (a ≤ℤ b) ⊎ (b ≤ℤ a)
cases_le a b = go (b -ℤ a) refl
  where
    go : (d : ℤ) → b -ℤ a ≡ d → (a ≤ℤ b) ⊎ (b ≤ℤ a)
    go (pos k) at = inl (omega (arith, ints, at))
    go (negsuc k) at = inr (omega (arith, ints, at))

-- where a later job is later by a whole number of jobs
later_by : (a b : ℤ) → a ≤ℤ b → (y : ℕ) × (b ≡ a +ℤ pos y)
later_by a b le = go (b -ℤ a) refl
  where
    go : (d : ℤ) → b -ℤ a ≡ d → (y : ℕ) × (b ≡ a +ℤ pos y)
    go (pos k) at = (k, omega (arith, ints, at))
    go (negsuc k) at = absurd (omega (arith, ints, at, le))

module _ (graph : TaskGraph) (good : IsWellFormed graph) (date : Family) (is : AreLeastReleases graph date) where
  -- of the jobs from m on, up to so many later, one with the least date
  lowest : (i : ℕ) (m : ℤ) (most : ℕ) → (x : ℕ) × (x ≤ most) × ((y : ℕ) → y ≤ most → date i (m +ℤ pos x) ≤ℤ date i (m +ℤ pos y))
  lowest i m zero = (0, omega arith, λ y small. subst (λ (z : ℕ). date i (m +ℤ pos 0) ≤ℤ date i (m +ℤ pos z)) (let e : 0 ≡ y = omega (arith, small) in e) (omega (arith, ints)))
  lowest i m (suc most) =
      let rest = lowest i m most in
      elim (cases_le (date i (m +ℤ pos rest.0)) (date i (m +ℤ pos (suc most)))) [
        | inl low ↦ (
          rest.0,
          (let r = rest.1 in omega (arith, r)),
          λ y small. elim (cases_lt most y) [
            | inl last ↦ subst (λ (z : ℕ). date i (m +ℤ pos rest.0) ≤ℤ date i (m +ℤ pos z)) (let e : suc most ≡ y = omega (arith, last, small) in e) low
            | inr before ↦ rest.2 y before
          ],
        )
        | inr low ↦ (
          suc most,
          omega arith,
          λ y small. elim (cases_lt most y) [
            | inl last ↦ subst (λ (z : ℕ). date i (m +ℤ pos (suc most)) ≤ℤ date i (m +ℤ pos z)) (let e : suc most ≡ y = omega (arith, last, small) in e) (omega (arith, ints))
            | inr before ↦ (let r = rest.2 y before in omega (arith, ints, r, low))
          ],
        )
      ]

  -- the least date from each job on, up to a hyperperiod later
  abbrev least_from : Family
  least_from i m = date i (m +ℤ pos (lowest i m (jobs_of graph good i)).0)

  -- it is nowhere above a later date
  lower : (i : ℕ) → i < length graph.tasks → (m : ℤ) (fuel y : ℕ) → y ≤ fuel → least_from i m ≤ℤ date i (m +ℤ pos y)
  lower i inside m zero y small = (lowest i m (jobs_of graph good i)).2 y (omega (arith, small))
  lower i inside m (suc fuel) y small =
      elim (cases_lt (jobs_of graph good i) y) [
        | inl far ↦
            (let some : 1 ≤ jobs_of graph good i = positive (jobs_of graph good i) (task_at graph i).clock.period good.hyper (jobs_are graph good i inside) in
            let at : (m +ℤ pos (y - jobs_of graph good i)) +ℤ pos (jobs_of graph good i) ≡ m +ℤ pos y = omega (arith, ints, far) in
            let same = ap (λ (z : ℤ). date i z) at in
            let rest = lower i inside m fuel (y - jobs_of graph good i) (omega (arith, small, far, some)) in
            omega (arith, ints, (least_repeat graph good date is).again i (jobs_of graph good i) inside (jobs_are graph good i inside) (m +ℤ pos (y - jobs_of graph good i)), same, rest))
        | inr near ↦ (lowest i m (jobs_of graph good i)).2 y near
      ]
    where
      positive : (c p : ℕ) → 1 ≤ graph.hyper → graph.hyper ≡ c * p → 1 ≤ c
      positive zero p some is = absurd (let e : 0 * p ≡ 0 = omega arith in omega (arith, some, is, e))
      positive (suc c) p some is = omega arith

  least_are : AreReleases graph least_from
  least_are = record {
    above = λ i m inside.
        (let x : ℕ = (lowest i m (jobs_of graph good i)).0 in
        omega (arith, ints, is.releases.above i (m +ℤ pos (lowest i m (jobs_of graph good i)).0) inside, plus_mul m (lowest i m (jobs_of graph good i)).0 (task_at graph i).clock.period));
    along = λ before after precedes.
        (let edge : Edge = precedes.1 in
        let along : PrecedesAlong graph edge before after = precedes.3 in
        let at : IsEdge graph edge = good.edges precedes.0 edge precedes.2 in
        let inside = source_inside graph edge at edge.from refl before.task along.from in
        let rises = preceding_rises edge.ty edge.ops at.operators after.number (after.number +ℤ pos (lowest after.task after.number (jobs_of graph good after.task)).0) (omega (arith, ints)) in
        let number = along.number in
        let by = later_by before.number (preceding edge.ops (after.number +ℤ pos (lowest after.task after.number (jobs_of graph good after.task)).0)) (omega (arith, ints, rises, number)) in
        let there : Precedes graph (record { task = before.task; number = before.number +ℤ pos by.0 }) (record { task = after.task; number = after.number +ℤ pos (lowest after.task after.number (jobs_of graph good after.task)).0 }) =
        (precedes.0, edge, precedes.2, record { from = along.from; to = along.to; number = sym by.1 }) in
        let kept = is.releases.along (record { task = before.task; number = before.number +ℤ pos by.0 }) (record { task = after.task; number = after.number +ℤ pos (lowest after.task after.number (jobs_of graph good after.task)).0 }) there in
        let low = lower before.task inside before.number by.0 by.0 (omega arith) in
        omega (arith, ints, kept, low));
  }

  pub releases_rise : (i : ℕ) (a b : ℤ) → i < length graph.tasks → a ≤ℤ b → date i a ≤ℤ date i b
  releases_rise i a b inside le =
      let by = later_by a b le in
      omega (arith, ints, is.least least_from least_are i a inside, lower i inside a by.0 by.0 (omega arith), ap (λ (z : ℤ). date i z) by.1)

module _ (graph : TaskGraph) (good : IsWellFormed graph) (windows : List (List Window)) (dates : AreEncodedDates graph windows) where
  next_deadline : (i : ℕ) (a : ℤ) (y : ℕ) → i < length graph.tasks → encoded_deadline graph windows i a ≤ℤ encoded_deadline graph windows i (a +ℤ pos y)
  next_deadline i a zero inside =
      (let e : a +ℤ pos 0 ≡ a = omega (arith, ints) in omega (arith, ints, ap (λ (z : ℤ). encoded_deadline graph windows i z) e))
  next_deadline i a (suc y) inside =
      let times : suc y * (task_at graph i).clock.period ≡ y * (task_at graph i).clock.period + (task_at graph i).clock.period = omega arith in
      omega (arith, ints, dates.deadlines.deadlines.below i a inside, (task_is graph good i inside).due.1, plus_mul a (suc y) (task_at graph i).clock.period, times)

  pub deadlines_rise : (i : ℕ) (a b : ℤ) → i < length graph.tasks → a ≤ℤ b → encoded_deadline graph windows i a ≤ℤ encoded_deadline graph windows i b
  deadlines_rise i a b inside le =
      let by = later_by a b le in
      omega (arith, ints, next_deadline i a by.0 inside, ap (λ (z : ℤ). encoded_deadline graph windows i z) by.1)
