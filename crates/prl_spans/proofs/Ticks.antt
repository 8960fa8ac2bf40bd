-- The first and the last tick of a job in a timed run.
use Rattle.prl_base.proofs.Standard.{◌≡◌, ◌+◌, ◌<◌, ◌≤◌, ◌⊎◌, ℕ, zero, suc, Option, None, Some, refl, sym, ◌∙◌, ap, subst, inl, inr, arith, cases_lt, cases_eq, nat_tests}
use Rattle.prl_plan.specs.Vocabulary.{RunConstants, IsJob}
use Rattle.prl_edf.specs.TimedRuns.{unit_of, units_before, AreUnits, IsTimedRun}
use Rattle.prl_edf.specs.MetWindows.{MeetsAllWindows}
use Rattle.prl_spans.specs.RunSpans.{IsSpanIn}

pub rise : (run : ℕ → Option (ℕ × ℕ)) (i n s t : ℕ) → s ≤ t → units_before run s i n ≤ units_before run t i n
rise run i n s zero before = (let same : s ≡ 0 = omega (arith, before) in rw same (omega arith))
rise run i n s (suc t) before = elim (cases_lt t s) [
  | inl past ↦ (let same : s ≡ suc t = omega (arith, before, past) in rw same (omega arith))
  | inr within ↦ (let rest = rise run i n s t within in omega (arith, rest))
]

-- what a tick goes to is the job, or no unit of it
goes_or_not : (o : Option (ℕ × ℕ)) (i n : ℕ) → (o ≡ Some (i, n)) ⊎ ((unit_of o i n ≡ 0) × (o ≡ Some (i, n) → ⊥))
goes_or_not None i n = inr (refl, (λ is. absurd (cc is)))
goes_or_not (Some job) i n =
    elim (cases_eq job.0 i) [
      | inr other ↦ inr (grind (arith, nat_tests, other), (λ is. other (cc is)))
      | inl task ↦ elim (cases_eq job.1 n) [
        | inr other ↦ inr (grind (arith, nat_tests, other), (λ is. other (cc is)))
        | inl number ↦ inl (λ d. Some (task d, number d))
      ]
    ]

module _ (run : ℕ → Option (ℕ × ℕ)) (i n : ℕ) where
  -- a tick that goes to the job counts
  counts : (t : ℕ) → run t ≡ Some (i, n) → 1 ≤ units_before run (suc t) i n
  counts t goes =
      let one : unit_of (Some (i, n)) i n ≡ 1 = grind (arith, nat_tests) in
      let e : unit_of (run t) i n ≡ 1 = ap (λ (o : Option (ℕ × ℕ)). unit_of o i n) goes ∙ one in
      omega (arith, e)

  record First (b : ℕ) : Type 0 where
    pub goes : run b ≡ Some (i, n)
    pub before : (u : ℕ) → run u ≡ Some (i, n) → b ≤ u

  first_before : (t : ℕ) → 1 ≤ units_before run t i n → (b : ℕ) × First b
  first_before zero some = absurd (omega (arith, some))
  first_before (suc t) some = elim (cases_lt 0 (units_before run t i n)) [
    | inl earlier ↦ first_before t earlier
    | inr none ↦ elim (goes_or_not (run t) i n) [
      | inl goes ↦ (
        t,
        record {
          goes = goes;
          before = λ u its. elim (cases_lt u t) [
            | inr from ↦ from
            | inl sooner ↦ absurd (let counted = counts u its in let more = rise run i n (suc u) t sooner in omega (arith, counted, more, none))
          ];
        },
      )
      | inr without ↦ absurd (let e = without.0 in omega (arith, some, none, e))
    ]
  ]

  record Last (l : ℕ) : Type 0 where
    pub goes : run l ≡ Some (i, n)
    pub after : (u : ℕ) → run u ≡ Some (i, n) → u ≤ l

  last_before : (t b : ℕ) → run b ≡ Some (i, n) → ((u : ℕ) → run u ≡ Some (i, n) → u < t) → (l : ℕ) × Last l
  last_before zero b goes within = absurd (let none = within b goes in omega (arith, none))
  last_before (suc t) b goes within = elim (goes_or_not (run t) i n) [
    | inl here ↦ (t, record { goes = here; after = λ u its. (let w = within u its in omega (arith, w)) })
    | inr without ↦ last_before t b goes (λ u its.
        (let w = within u its in
        elim (cases_eq u t) [
          | inl same ↦ absurd (without.1 (subst (λ (x : ℕ). run x ≡ Some (i, n)) same its))
          | inr other ↦ omega (arith, w, other)
        ]))
  ]

-- each job of a run that meets all windows has a span
pub job_has_span : (c : RunConstants) (cost units : ℕ → ℕ → ℕ) (run : ℕ → Option (ℕ × ℕ)) → AreUnits c cost units → IsTimedRun c units run → MeetsAllWindows c units run →
    (i n : ℕ) → IsJob c i n → (begin : ℕ) × (end : ℕ) × IsSpanIn run i n begin end
job_has_span c cost units run are timed met i n job =
    let some = (are i n job).0 in
    let first = first_before run i n (c.deadline i n) (omega (arith, some, met i n job)) in
    let last = last_before run i n c.end first.0 first.1.goes (λ u its. elim (cases_lt u c.end) [
      | inl within ↦ within
      | inr past ↦ absurd (let none = timed.ends u past in let e : None ≡ Some (i, n) = sym none ∙ its in cc e)
    ]) in (
      first.0,
      last.0 + 1,
      record { first = first.1.goes; before = first.1.before; last = (last.0, last.1.goes, refl); after = λ t its. (let a = last.1.after t its in omega (arith, a)) },
    )
