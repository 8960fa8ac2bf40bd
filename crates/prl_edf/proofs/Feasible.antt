-- A job that misses its window in a run by earliest deadline first shows an overloaded interval that ends with its deadline.
use Rattle.prl_base.proofs.Standard.{◌≡◌, ◌+◌, ◌<◌, ◌≤◌, ◌⊎◌, ℕ, zero, suc, Option, Some, None, inl, inr, arith, cases_lt}
use Rattle.prl_plan.specs.Vocabulary.{IsJob, RunConstants}
use Rattle.prl_edf.specs.Vocabulary.{sum_of_jobs, cost_within, IsOverloaded, units_before, IsReady, AreUnits, IsEdfRun}
use Rattle.prl_edf.proofs.Busy.{AreGoodSince, good_since}
use Rattle.prl_overlaps.proofs.Sums.{jobs_grow}
use Rattle.prl_overlaps.proofs.Within.{inside, cost_inside, cost_rises}
use Rattle.prl_edf.proofs.Units.{some_or_none, units_rise, unit_more, never_more}

module _ (c : RunConstants) (units : ℕ → ℕ → ℕ) (run : ℕ → Option (ℕ × ℕ)) (edf : IsEdfRun c units run) (b : ℕ) (within : b ≤ c.end) where
  -- the tick goes to a job that is due by b
  abbrev Serves : ℕ → Type 0
  Serves t = (i : ℕ) × (n : ℕ) × (run t ≡ Some (i, n)) × (c.deadline i n ≤ b)

  -- it goes to none, or to a job that is due later
  abbrev Spares : ℕ → Type 0
  Spares t = (run t ≡ None) ⊎ ((i : ℕ) × (n : ℕ) × (run t ≡ Some (i, n)) × (b < c.deadline i n))

  serves_or_spares : (t : ℕ) → Serves t ⊎ Spares t
  serves_or_spares t = elim (some_or_none (run t)) [
    | inl none ↦ inr (inl none)
    | inr some ↦ elim (cases_lt b (c.deadline some.0 some.1)) [
      | inl later ↦ inr (inr (some.0, some.1, some.2, later))
      | inr due ↦ inl (some.0, some.1, some.2, due)
    ]
  ]

  -- at such a tick no job that is due by b is ready
  none_ready : (t : ℕ) → t < b → Spares t → (i n : ℕ) → c.deadline i n ≤ b → IsReady c units run t i n → ⊥
  none_ready t before spares i n due ready = elim spares [
    | inl none ↦ edf.busy t i n (omega (arith, before, within)) none ready
    | inr later ↦ (let first = edf.earliest t later.0 later.1 i n later.2 ready in let past = later.3 in omega (arith, first, past, due))
  ]

  module _ (a : ℕ) (since : AreGoodSince Serves Spares b a) where
    -- a job that is due by b and has units left at some tick from a on is not released before a
    released_since : (t i n : ℕ) → a ≤ t → IsJob c i n → c.deadline i n ≤ b → units_before run t i n < units i n → a ≤ c.release i n
    released_since t i n from job due left = elim since.begins [
      | inl none ↦ omega (arith, none)
      | inr spare ↦ elim (cases_lt (c.release i n) a) [
        | inr late ↦ late
        | inl early ↦ absurd
            (let is : a ≡ suc spare.0 = spare.1 in
            let rise = units_rise run i n spare.0 t (omega (arith, from, is)) in
            none_ready spare.0 (omega (arith, is, since.within)) spare.2 i n due
            (record { job = job; released = omega (arith, early, is); left = omega (arith, rise, left) }))
      ]
    ]

    -- so the ticks from a on go to jobs that are released and due within [a, b)
    filled : (t : ℕ) → t ≤ b → t ≤ a + sum_of_jobs c (cost_within c (units_before run t) a b)
    filled zero h = omega arith
    filled (suc t) h = elim (cases_lt t a) [
      | inl before ↦ omega (arith, before)
      | inr from ↦
          (let rest = filled t (omega (arith, h)) in
          let serves = since.good t from h in
          let i : ℕ = serves.0 in
          let n : ℕ = serves.1 in
          let is : run t ≡ Some (i, n) = serves.2 in
          let due : c.deadline i n ≤ b = serves.3 in
          let ready = edf.timed.ready t i n is in
          let in_it = inside c a b i n (released_since t i n from ready.job due ready.left) due in
          let grows = jobs_grow c (cost_within c (units_before run t) a b) (cost_within c (units_before run (suc t)) a b)
          (λ j k _. cost_rises c a b (units_before run t) (units_before run (suc t)) j k (units_rise run j k t (suc t) (omega arith)))
          i n ready.job (omega (arith, unit_more run i n t is, cost_inside c a b (units_before run t) i n in_it, cost_inside c a b (units_before run (suc t)) i n in_it)) in
          omega (arith, rest, grows))
    ]

    -- more is asked of [a, b) than it has
    overloads : (cost : ℕ → ℕ → ℕ) → AreUnits c cost units → (i n : ℕ) → IsJob c i n → c.deadline i n ≤ b → units_before run b i n < units i n →
        IsOverloaded c cost a b
    overloads cost are i n job due missed =
        let full = filled b (omega arith) in
        let in_it = inside c a b i n (released_since b i n since.within job due missed) due in
        let grows = jobs_grow c (cost_within c (units_before run b) a b) (cost_within c cost a b)
        (λ j k is. cost_rises c a b (units_before run b) cost j k
        (let up = never_more c units run edf.timed j k b in let below = (are j k is).1 in omega (arith, up, below)))
        i n job (omega (arith, cost_inside c a b (units_before run b) i n in_it, cost_inside c a b cost i n in_it, (are i n job).1, missed)) in
        omega (arith, full, grows)

-- a job that misses its window: some interval that ends at its deadline is overloaded
pub missed_overloads : (c : RunConstants) (cost units : ℕ → ℕ → ℕ) (run : ℕ → Option (ℕ × ℕ)) → AreUnits c cost units → IsEdfRun c units run →
    (i n : ℕ) → IsJob c i n → c.deadline i n ≤ c.end → units_before run (c.deadline i n) i n < units i n →
    (a : ℕ) × IsOverloaded c cost a (c.deadline i n)
missed_overloads c cost units run are edf i n job within missed =
    let b : ℕ = c.deadline i n in
    let since = good_since (Serves c units run edf b within) (Spares c units run edf b within) (serves_or_spares c units run edf b within) b in
    (since.0, overloads c units run edf b within since.0 since.1 cost are i n job (omega arith) missed)
