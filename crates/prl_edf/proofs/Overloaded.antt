-- A timed run that gives the jobs within an interval all that they cost has no more ticks there than the interval.
use Rattle.prl_base.proofs.Standard.{◌≡◌, ◌+◌, ◌-◌, ◌≤◌, ℕ, zero, suc, Option, inl, inr, ◌∙◌, arith, cases_lt}
use Rattle.prl_plan.specs.Vocabulary.{IsJob, RunConstants}
use Rattle.prl_edf.specs.Vocabulary.{sum_of_jobs, cost_within, demand, units_before, IsTimedRun, MeetsWindow}
use Rattle.prl_overlaps.proofs.Sums.{jobs_rise, jobs_none, jobs_by_one}
use Rattle.prl_overlaps.proofs.Within.{inside_or_not, cost_inside, cost_outside, cost_rises}
use Rattle.prl_edf.proofs.Units.{some_or_none, units_rise, unit_not, unit_none, unit_at_most, none_yet}

module _ (c : RunConstants) (units : ℕ → ℕ → ℕ) (run : ℕ → Option (ℕ × ℕ)) (timed : IsTimedRun c units run) (a b : ℕ) where
  abbrev given : ℕ → ℕ → ℕ → ℕ
  given t = cost_within c (units_before run t) a b

  nothing_yet : (t : ℕ) → t ≤ a → sum_of_jobs c (given t) ≡ 0
  nothing_yet t h = jobs_none c (given t) (λ i n _. elim (inside_or_not c a b i n) [
    | inr out ↦ cost_outside c a b (units_before run t) i n out
    | inl is ↦ (let late = is.0 in cost_inside c a b (units_before run t) i n is.2 ∙ none_yet c units run timed i n t (omega (arith, h, late)))
  ])

  at_most_one : (t : ℕ) → sum_of_jobs c (given (suc t)) ≤ sum_of_jobs c (given t) + 1
  at_most_one t = elim (some_or_none (run t)) [
    | inl none ↦
        (let same = jobs_rise c (given (suc t)) (given t) (λ i n _. cost_rises c a b (units_before run (suc t)) (units_before run t) i n
        (let e = unit_none run i n t none in omega (arith, e))) in omega (arith, same))
    | inr some ↦ jobs_by_one c (given t) (given (suc t)) some.0 some.1
        (λ i n _ other. cost_rises c a b (units_before run (suc t)) (units_before run t) i n
        (let e = unit_not run i n t some.0 some.1 some.2 other in omega (arith, e)))
        (λ _. elim (inside_or_not c a b some.0 some.1) [
          | inr out ↦ (let e = cost_outside c a b (units_before run (suc t)) some.0 some.1 out in omega (arith, e))
          | inl is ↦ (let e = cost_inside c a b (units_before run (suc t)) some.0 some.1 is.2 in
              let one = unit_at_most run some.0 some.1 t in omega (arith, e, cost_inside c a b (units_before run t) some.0 some.1 is.2, one))
        ])
  ]

  no_more_than_it_has : (t : ℕ) → sum_of_jobs c (given t) ≤ t - a
  no_more_than_it_has zero = (let e = nothing_yet 0 (omega arith) in omega (arith, e))
  no_more_than_it_has (suc t) = elim (cases_lt t a) [
    | inl before ↦ (let e = nothing_yet (suc t) before in omega (arith, e))
    | inr from ↦ (let rest = no_more_than_it_has t in let one = at_most_one t in omega (arith, rest, one, from))
  ]

  -- so where all these jobs meet their windows, the demand of what they have is no more than the interval
  pub met_fits : ((i n : ℕ) → IsJob c i n → c.deadline i n ≤ b → MeetsWindow c units run i n) → demand c units a b ≤ b - a
  met_fits met =
      let all = jobs_rise c (cost_within c units a b) (given b) (λ i n job. elim (inside_or_not c a b i n) [
        | inr out ↦ (let e = cost_outside c a b units i n out in omega (arith, e))
        | inl is ↦ cost_rises c a b units (units_before run b) i n
            (let due = is.1 in let up = units_rise run i n (c.deadline i n) b due in let h = met i n job due in omega (arith, up, h))
      ]) in
      omega (arith, no_more_than_it_has b, all)
