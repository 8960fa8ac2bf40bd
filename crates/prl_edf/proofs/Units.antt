-- How the units of a job rise, tick by tick.
use Rattle.prl_base.proofs.Standard.{◌≡◌, ◌+◌, ◌≤◌, ℕ, zero, suc, Option, Some, None, ◌⊎◌, inl, inr, refl, sym, ap, ◌∙◌, arith, cases_lt, nat_tests}
use Rattle.prl_plan.specs.Runs.{RunConstants}
use Rattle.prl_edf.specs.Vocabulary.{unit_of, units_before, IsTimedRun}

pub unit_here : (i n : ℕ) → unit_of (Some (i, n)) i n ≡ 1
unit_here i n = grind (arith, nat_tests)

unit_small : (o : Option (ℕ × ℕ)) (i n : ℕ) → unit_of o i n ≤ 1
unit_small None i n = omega arith
unit_small (Some job) i n = grind (arith, nat_tests)

unit_other : (j k i n : ℕ) → (i ≡ j → n ≡ k → ⊥) → unit_of (Some (j, k)) i n ≡ 0
unit_other j k i n other = grind (arith, nat_tests)

cases_eq : (a b : ℕ) → (a ≡ b) ⊎ (a ≡ b → ⊥)
cases_eq a b = grind arith

-- what a tick goes to
pub some_or_none : (o : Option (ℕ × ℕ)) → (o ≡ None) ⊎ ((i : ℕ) × (n : ℕ) × (o ≡ Some (i, n)))
some_or_none None = inl refl
some_or_none (Some job) = inr (job.0, job.1, refl)

-- a job gets the tick, or it does not
gets_or_not : (o : Option (ℕ × ℕ)) (i n : ℕ) → (o ≡ Some (i, n)) ⊎ (unit_of o i n ≡ 0)
gets_or_not None i n = inr refl
gets_or_not (Some job) i n =
    elim (cases_eq job.0 i) [
      | inr other ↦ inr (unit_other job.0 job.1 i n (λ same _. other (sym same)))
      | inl task ↦ elim (cases_eq job.1 n) [
        | inr other ↦ inr (unit_other job.0 job.1 i n (λ _ same. other (sym same)))
        | inl number ↦ inl (λ d. Some (task d, number d))
      ]
    ]

module _ (run : ℕ → Option (ℕ × ℕ)) (i n : ℕ) where
  pub units_rise : (s t : ℕ) → s ≤ t → units_before run s i n ≤ units_before run t i n
  units_rise s zero h = (let same : s ≡ 0 = omega (arith, h) in rw same (omega arith))
  units_rise s (suc t) h = elim (cases_lt t s) [
    | inl past ↦ (let same : s ≡ suc t = omega (arith, h, past) in rw same (omega arith))
    | inr before ↦ (let rest = units_rise s t before in omega (arith, rest))
  ]

  -- the tick goes to another job or to none
  pub unit_not : (t j k : ℕ) → run t ≡ Some (j, k) → (i ≡ j → n ≡ k → ⊥) → units_before run (suc t) i n ≡ units_before run t i n
  unit_not t j k is other = (let e : unit_of (run t) i n ≡ 0 = ap (λ (o : Option (ℕ × ℕ)). unit_of o i n) is ∙ unit_other j k i n other in omega (arith, e))

  pub unit_none : (t : ℕ) → run t ≡ None → units_before run (suc t) i n ≡ units_before run t i n
  unit_none t is = (let e : unit_of (run t) i n ≡ 0 = ap (λ (o : Option (ℕ × ℕ)). unit_of o i n) is in omega (arith, e))

  pub unit_more : (t : ℕ) → run t ≡ Some (i, n) → units_before run (suc t) i n ≡ units_before run t i n + 1
  unit_more t is = (let e : unit_of (run t) i n ≡ 1 = ap (λ (o : Option (ℕ × ℕ)). unit_of o i n) is ∙ unit_here i n in omega (arith, e))

  pub unit_at_most : (t : ℕ) → units_before run (suc t) i n ≤ units_before run t i n + 1
  unit_at_most t = (let e = unit_small (run t) i n in omega (arith, e))

module _ (c : RunConstants) (units : ℕ → ℕ → ℕ) (run : ℕ → Option (ℕ × ℕ)) (timed : IsTimedRun c units run) (i n : ℕ) where
  -- no job has more ticks than units
  pub never_more : (t : ℕ) → units_before run t i n ≤ units i n
  never_more zero = omega arith
  never_more (suc t) = elim (gets_or_not (run t) i n) [
    | inl gets ↦ (let ready = timed.ready t i n gets in let left = ready.left in let more = unit_more run i n t gets in omega (arith, left, more))
    | inr without ↦ (let rest = never_more t in omega (arith, rest, without))
  ]

  -- nor any before it is released
  pub none_yet : (t : ℕ) → t ≤ c.release i n → units_before run t i n ≡ 0
  none_yet zero h = refl
  none_yet (suc t) h = elim (gets_or_not (run t) i n) [
    | inl gets ↦ absurd (let ready = timed.ready t i n gets in let released = ready.released in omega (arith, released, h))
    | inr without ↦ (let rest = none_yet t (omega (arith, h)) in omega (arith, rest, without))
  ]
