-- The least end of an overloaded interval is the earliest deadline that a run by earliest deadline first misses.
use Rattle.prl_base.proofs.Standard.{◌≡◌, ◌-◌, ◌≤◌, ◌⊎◌, ℕ, Option, inl, inr, refl, sym, subst, arith, cases_lt}
use Rattle.prl_plan.specs.Vocabulary.{IsJob, HasPlanFacts, RunConstants}
use Rattle.prl_overlaps.specs.Vocabulary.{cost_within, demand, IsGreatest, IsOverloaded, IsFirstOverload}
use Rattle.prl_overlaps.proofs.Sums.{jobs_rise, jobs_none}
use Rattle.prl_overlaps.proofs.Within.{inside, inside_or_not, cost_inside, cost_outside}
use Rattle.prl_edf.specs.Vocabulary.{units_before, IsTimedRun, AreUnits, IsEdfRun, MissesWindow, IsFirstMiss}
use Rattle.prl_edf.proofs.Best.{none_or_least}
use Rattle.prl_edf.proofs.Feasible.{missed_overloads}
use Rattle.prl_edf.proofs.Overloaded.{met_fits}

module _ (c : RunConstants) (cost : ℕ → ℕ → ℕ) where
  -- no interval that is overloaded ends before a deadline up to which all are met
  pub no_earlier_end : (run : ℕ → Option (ℕ × ℕ)) → IsTimedRun c cost run → (b : ℕ) →
      ((i n : ℕ) → IsJob c i n → MissesWindow c cost run i n → b ≤ c.deadline i n) → (x y : ℕ) → IsOverloaded c cost x y → b ≤ y
  no_earlier_end run timed b first x y over = elim (cases_lt y b) [
    | inr past ↦ past
    | inl before ↦ absurd
        (let fits = met_fits c cost run timed x y (λ i n job due. elim (cases_lt (units_before run (c.deadline i n) i n) (cost i n)) [
          | inr met ↦ met
          | inl missed ↦ absurd (let h = first i n job missed in omega (arith, h, due, before))
        ]) in
        omega (arith, fits, over))
  ]

  -- released and due within [a, b)
  abbrev IsIn : ℕ → ℕ → ℕ → ℕ → Type 0
  IsIn a b i n = (a ≤ c.release i n) × (c.deadline i n ≤ b)

  in_or_not : (a b i n : ℕ) → IsIn a b i n ⊎ (IsIn a b i n → ⊥)
  in_or_not a b i n = grind arith

  -- an overloaded interval stays so where it begins with the first of its jobs
  pub begins_with_a_job : (a b : ℕ) → IsOverloaded c cost a b → (i : ℕ) × (n : ℕ) × IsJob c i n × (a ≤ c.release i n) × IsOverloaded c cost (c.release i n) b × (c.deadline i n ≤ b)
  begins_with_a_job a b over = elim (none_or_least c (IsIn a b) c.release (in_or_not a b)) [
    | inl never ↦ absurd
        (let nothing = jobs_none c (cost_within c cost a b) (λ i n job. elim (inside_or_not c a b i n) [
          | inr out ↦ cost_outside c a b cost i n out
          | inl is ↦ absurd (never i n (job, (is.0, is.1)))
        ]) in
        omega (arith, over, nothing))
    | inr found ↦
        (let i : ℕ = found.0 in
        let n : ℕ = found.1 in
        let from : a ≤ c.release i n = found.2.is.1.0 in
        let more : demand c cost a b ≤ demand c cost (c.release i n) b =
        jobs_rise c (cost_within c cost a b) (cost_within c cost (c.release i n) b) (λ j k job. elim (inside_or_not c a b j k) [
          | inr out ↦ (let e = cost_outside c a b cost j k out in omega (arith, e))
          | inl is ↦ (let least = found.2.least j k (job, (is.0, is.1)) in
              omega (arith, cost_inside c a b cost j k is.2, cost_inside c (c.release i n) b cost j k (inside c (c.release i n) b j k least is.1)))
        ]) in
        (i, n, found.2.is.0, from, omega (arith, over, more, from), found.2.is.1.1))
  ]

  over_or_not : (b i n : ℕ) → IsOverloaded c cost (c.release i n) b ⊎ (IsOverloaded c cost (c.release i n) b → ⊥)
  over_or_not b i n = elim (cases_lt (b - c.release i n) (demand c cost (c.release i n) b)) [
    | inl over ↦ inl over
    | inr fits ↦ inr (λ over. omega (arith, over, fits))
  ]

pub first_overload : (c : RunConstants) → HasPlanFacts c → (cost : ℕ → ℕ → ℕ) (run : ℕ → Option (ℕ × ℕ)) → AreUnits c cost cost → IsEdfRun c cost run →
    (i n : ℕ) → IsFirstMiss c cost run i n → (a : ℕ) × IsFirstOverload c cost a (c.deadline i n)
first_overload c facts cost run are edf i n miss =
    let b : ℕ = c.deadline i n in
    let some = missed_overloads c cost cost run are edf i n miss.job (facts.within i n miss.job) miss.misses in
    let begun = begins_with_a_job c cost some.0 b some.1 in
    elim (none_or_least c (λ j k. IsOverloaded c cost (c.release j k) b) (λ j k. c.end - c.release j k) (over_or_not c cost b)) [
      | inl never ↦ absurd (never begun.0 begun.1 (begun.2, begun.4))
      | inr best ↦ (
        c.release best.0 best.1,
        record {
          overloaded = best.2.is.1;
          least_end = λ x y over. no_earlier_end c cost run edf.timed b miss.earliest x y over;
          begins = (best.0, best.1, best.2.is.0, refl);
          greatest = λ j k is over.
              omega (arith, best.2.least j k (is, over), facts.window j k is, facts.within j k is);
        },
      )
    ]

pub one_first_overload : (c : RunConstants) (cost : ℕ → ℕ → ℕ) (from to other end : ℕ) → IsFirstOverload c cost from to → IsFirstOverload c cost other end →
    (from ≡ other) × (to ≡ end)
one_first_overload c cost from to other end x y =
    let same : to ≡ end = omega (arith, x.least_end other end y.overloaded, y.least_end from to x.overloaded) in
    let at_x = subst (λ (t : ℕ). IsOverloaded c cost from t) same x.overloaded in
    let at_y = subst (λ (t : ℕ). IsOverloaded c cost other t) (sym same) y.overloaded in
    let i = x.begins in
    let j = y.begins in
    let up = x.greatest j.0 j.1 j.2 (subst (λ (t : ℕ). IsOverloaded c cost t to) j.3 at_y) in
    let down = y.greatest i.0 i.1 i.2 (subst (λ (t : ℕ). IsOverloaded c cost t end) i.3 at_x) in
    (omega (arith, up, down, i.3, j.3), same)

module _ (c : RunConstants) (cost : ℕ → ℕ → ℕ) (b : ℕ) where
  -- the greatest beginning of an overloaded interval that ends at a first miss
  pub greatest_is_first : HasPlanFacts c → (run : ℕ → Option (ℕ × ℕ)) → AreUnits c cost cost → IsEdfRun c cost run → (i n : ℕ) → IsFirstMiss c cost run i n → b ≡ c.deadline i n →
      (a asked : ℕ) → IsGreatest c cost b a asked → IsFirstOverload c cost a b
  greatest_is_first facts run are edf i n miss ends a asked is =
      let told = first_overload c facts cost run are edf i n miss in
      let over : IsOverloaded c cost a b = (let o = is.over in omega (arith, o, is.asked_is)) in
      let none_later : (x : ℕ) → IsOverloaded c cost x b → x ≤ b → x ≤ a = (λ x o within. elim (cases_lt a x) [
        | inr past ↦ past
        | inl later ↦ absurd (let h = is.greatest x later within in omega (arith, h, o, within))
      ]) in
      let job = begins_with_a_job c cost a b over in
      let at_job : c.release job.0 job.1 ≤ a = none_later (c.release job.0 job.1) job.4 (let due = job.5 in let w = facts.window job.0 job.1 job.2 in omega (arith, due, w)) in
      record {
        overloaded = over;
        least_end = λ x y o. (let h = told.1.least_end x y o in omega (arith, h, ends));
        begins = (job.0, job.1, job.2, omega (arith, job.3, at_job));
        greatest = λ j k at o. none_later (c.release j k) o (elim (cases_lt b (c.release j k)) [
          | inr within ↦ within
          | inl past ↦ absurd (let late = begins_with_a_job c cost (c.release j k) b o in
              let f = late.3 in let due = late.5 in let w = facts.window late.0 late.1 late.2 in omega (arith, past, f, due, w))
        ]);
      }
