-- The ages of one settled hyperperiod are those of all later ones.
use Rattle.prl_base.proofs.Standard.{◌≡◌, ◌+◌, ◌-◌, ◌*◌, ◌<◌, ◌≤◌, ◌⊎◌, inl, inr, List, ℕ, zero, suc, length, refl, sym, ◌∙◌, ap, subst, arith, Option, Some, None, cases_lt, mul-le-mul_left, mul-le-mul_right}
use Rattle.prl_base.specs.declared.numbers.TaskNo.{TaskNo}
use Rattle.prl_plan.specs.declared.graphs.TaskGraph.{TaskGraph}
use Rattle.prl_plan.specs.Vocabulary.{IsWellFormed, sum_below}
use Rattle.prl_ages.specs.Reaching.{Reaches, IsFreshest, jobs_of}
use Rattle.prl_ages.specs.Ages.{released, due_by, age_of, jobs_later, IsBestAge, IsSettledAge}
use Rattle.prl_ages.specs.Settling.{CoverAllConstants}
use Rattle.prl_ages.specs.Spans.{IsAgeAt, IsNotOlder, IsNotNewer, IsWorstOf, IsBestOf}
use Rattle.prl_ages.specs.code.Windows.{IsSettledAfter}
use Rattle.prl_ages.specs.declared.ages.Age.{Age}
use Rattle.prl_ages.specs.declared.ages.Until.{Until}
use Rattle.prl_ages.specs.declared.ages.Until.TheVariants as untils
use Rattle.prl_ages.proofs.Falling.{released_often, some_jobs, back_to, falls_often, within_below}
use Rattle.prl_ages.proofs.CutWays.{settles_later, settles_earlier}

module _ (graph : TaskGraph) (chain : List TaskNo) (good : IsWellFormed graph) (s a turns : ℕ) (in_s : s < length graph.tasks) (in_a : a < length graph.tasks)
    (after : IsSettledAfter graph turns) where
  -- a job from so many hyperperiods on has settled
  late_enough : (l : ℕ) → turns * jobs_of graph a ≤ l → sum_below after.0 (length graph.tasks) * jobs_of graph a ≤ l
  late_enough l late = omega (arith, mul-le-mul_right (jobs_of graph a) after.2, late)

  pub settles_often : (n m l : ℕ) → turns * jobs_of graph a ≤ l → IsFreshest graph chain s m a l → IsFreshest graph chain s (m + n * jobs_of graph s) a (l + n * jobs_of graph a)
  settles_often zero m l late fresh =
      let e : m ≡ m + 0 * jobs_of graph s = omega arith in
      let f : l ≡ l + 0 * jobs_of graph a = omega arith in
      subst (λ (x : ℕ). IsFreshest graph chain s x a (l + 0 * jobs_of graph a)) e (subst (λ (x : ℕ). IsFreshest graph chain s m a x) f fresh)
  settles_often (suc n) m l late fresh =
      let e : m + n * jobs_of graph s + jobs_of graph s ≡ m + suc n * jobs_of graph s = omega arith in
      let f : l + n * jobs_of graph a + jobs_of graph a ≡ l + suc n * jobs_of graph a = omega arith in
      subst (λ (x : ℕ). IsFreshest graph chain s x a (l + suc n * jobs_of graph a)) e
      (subst (λ (x : ℕ). IsFreshest graph chain s (m + n * jobs_of graph s + jobs_of graph s) a x) f
      (settles_later graph chain good after.0 after.1 s a (m + n * jobs_of graph s) (l + n * jobs_of graph a) in_s in_a (late_enough (l + n * jobs_of graph a) (omega (arith, late)))
      (settles_often n m l late fresh)))

  -- and back
  pub settles_back : (n f l : ℕ) → turns * jobs_of graph a ≤ l → IsFreshest graph chain s f a (l + n * jobs_of graph a) →
      (m : ℕ) × (f ≡ m + n * jobs_of graph s) × IsFreshest graph chain s m a l
  settles_back zero f l late fresh =
      let e : l + 0 * jobs_of graph a ≡ l = omega arith in
      (f, omega arith, subst (λ (x : ℕ). IsFreshest graph chain s f a x) e fresh)
  settles_back (suc n) f l late fresh =
      let e : l + suc n * jobs_of graph a ≡ l + n * jobs_of graph a + jobs_of graph a = omega arith in
      let back = settles_earlier graph chain good after.0 after.1 s a f (l + n * jobs_of graph a) in_s in_a (late_enough (l + n * jobs_of graph a) (omega (arith, late)))
      (subst (λ (x : ℕ). IsFreshest graph chain s f a x) e fresh) in
      let rest = settles_back n back.0 l late back.2 in
      let g : back.0 + jobs_of graph s ≡ rest.0 + suc n * jobs_of graph s = (let h : suc n * jobs_of graph s ≡ n * jobs_of graph s + jobs_of graph s = omega arith in omega (arith, rest.1, h)) in
      (rest.0, back.1 ∙ g, rest.2)

  -- an age stays the same so many hyperperiods later
  age_again : (n m l : ℕ) → age_of graph s (m + n * jobs_of graph s) a untils.Used (l + n * jobs_of graph a) ≡ age_of graph s m a untils.Used l
  age_again n m l =
      let from = released_often graph good s in_s n m in
      let same : l + n * jobs_of graph a + 0 ≡ l + 0 + n * jobs_of graph a = omega arith in
      let till : due_by graph a (l + n * jobs_of graph a + 0) ≡ due_by graph a (l + 0) + n * graph.hyper =
      ap (λ (x : ℕ). due_by graph a x) same ∙ (let e = released_often graph good a in_a n (l + 0) in omega (arith, e)) in
      omega (arith, from, till)

  some_turns : (n : ℕ) → n ≤ n * jobs_of graph a
  some_turns n = (let e : n * 1 ≤ n * jobs_of graph a = mul-le-mul_left n (some_jobs graph good a in_a) in omega (arith, e))

  -- the worst age of a settled hyperperiod is the settled age
  pub settled_is : (worst : Age) → IsWorstOf graph chain s a untils.Used (turns * jobs_of graph a) (turns * jobs_of graph a + jobs_of graph a) (Some worst) →
      IsSettledAge graph chain s a worst.ticks
  settled_is worst of = record {
    above = (turns * jobs_of graph a, λ k m past fresh. above_now k m past fresh (cases_lt k (turns * jobs_of graph a + jobs_of graph a)));
    again = λ from. (
      worst.job + from * jobs_of graph a,
      worst.instance + from * jobs_of graph s,
      omega (arith, some_turns from),
      settles_often from worst.instance worst.job of.attained.0 of.attained.2.1,
      of.attained.2.2 ∙ sym (age_again from worst.instance worst.job),
    );
  }
    where
      within : (k m : ℕ) → turns * jobs_of graph a ≤ k → k < turns * jobs_of graph a + jobs_of graph a → Reaches graph chain s m a k →
          (f : ℕ) × IsFreshest graph chain s f a k × (age_of graph s f a untils.Used k ≤ worst.ticks)
      within k m past below reaches =
          let each = of.each k past below in
          within_below graph chain good s a untils.Used in_s in_a 0 k m worst each.0 each.1 each.2 reaches

      above_now : (k m : ℕ) → turns * jobs_of graph a ≤ k → IsFreshest graph chain s m a k → (k < turns * jobs_of graph a + jobs_of graph a) ⊎ (turns * jobs_of graph a + jobs_of graph a ≤ k) →
          age_of graph s m a untils.Used k ≤ worst.ticks
      above_now k m past fresh (inl below) =
          let found = within k m past below fresh.reaches in
          let one : found.0 ≤ m = fresh.latest found.0 found.1.reaches in
          let other : m ≤ found.0 = found.1.latest m fresh.reaches in
          let same : m ≡ found.0 = omega (arith, one, other) in
          omega (arith, found.2, ap (λ (x : ℕ). age_of graph s x a untils.Used k) same)
      above_now k m past fresh (inr beyond) =
          let back = back_to graph good a in_a (turns * jobs_of graph a + jobs_of graph a) k (omega arith) beyond in
          let late : turns * jobs_of graph a ≤ back.1 = omega (arith, back.4) in
          let early = settles_back back.0 m back.1 late (subst (λ (x : ℕ). IsFreshest graph chain s m a x) back.2 fresh) in
          let found = within back.1 early.0 late back.3 early.2.reaches in
          let one : found.0 ≤ early.0 = early.2.latest found.0 found.1.reaches in
          let other : early.0 ≤ found.0 = found.1.latest early.0 early.2.reaches in
          let same : early.0 ≡ found.0 = omega (arith, one, other) in
          let again = age_again back.0 early.0 back.1 in
          omega (
            arith,
            found.2,
            ap (λ (x : ℕ). age_of graph s x a untils.Used back.1) same,
            again,
            ap (λ (x : ℕ). age_of graph s m a untils.Used x) back.2,
            ap (λ (x : ℕ). age_of graph s x a untils.Used (back.1 + back.0 * jobs_of graph a)) early.1,
          )

  -- where each job from then on is reached, the best age of a settled hyperperiod is the best of all jobs
  pub best_is : (best : Age) → ((l : ℕ) → turns * jobs_of graph a ≤ l → (m : ℕ) × Reaches graph chain s m a l) →
      IsBestOf graph chain s a untils.Used (turns * jobs_of graph a) (turns * jobs_of graph a + jobs_of graph a) (Some best) → IsBestAge graph chain s a best.ticks
  best_is best reached of = record {
    below = λ k m fresh. below_now k m fresh;
    attained = (best.job, best.instance, of.attained.2.1, of.attained.2.2);
  }
    where
      found_in : (l m : ℕ) (age : Option Age) → IsAgeAt graph chain s a untils.Used l age → IsNotNewer age (Some best) → Reaches graph chain s m a l →
          (f : ℕ) × IsFreshest graph chain s f a l × (best.ticks ≤ age_of graph s f a untils.Used l)
      found_in l m None at newer reaches = absurd (at m reaches)
      found_in l m (Some age) at newer reaches = (age.instance, at.1, omega (arith, at.2, newer))

      below_now : (k m : ℕ) → IsFreshest graph chain s m a k → best.ticks ≤ age_of graph s m a untils.Used k
      below_now k m fresh =
          let split : (turns + 1) * jobs_of graph a ≡ turns * jobs_of graph a + jobs_of graph a = omega arith in
          let back = back_to graph good a in_a (turns * jobs_of graph a + jobs_of graph a) (k + (turns + 1) * jobs_of graph a) (omega arith) (omega (arith, split)) in
          let late : turns * jobs_of graph a ≤ back.1 = omega (arith, back.4) in
          let at = reached back.1 late in
          let each = of.each back.1 late back.3 in
          let found = found_in back.1 at.0 each.0 each.1 each.2 at.1 in
          let on = settles_often back.0 found.0 back.1 late found.1 in
          let there = subst (λ (x : ℕ). IsFreshest graph chain s (found.0 + back.0 * jobs_of graph s) a x) (sym back.2) on in
          let falls = falls_often graph chain good s a untils.Used in_s in_a (turns + 1) m k (found.0 + back.0 * jobs_of graph s) fresh.reaches there in
          omega (
            arith,
            found.2,
            age_again back.0 found.0 back.1,
            falls,
            ap (λ (x : ℕ). age_of graph s (found.0 + back.0 * jobs_of graph s) a untils.Used x) back.2,
          )
