-- Runs by earliest deadline first over some of a plan's jobs: what two of them have in common.
use Rattle.prl_base.proofs.Standard.{◌≡◌, ◌+◌, ◌<◌, ◌≤◌, ◌⊎◌, ℕ, zero, suc, length, Option, Some, None, inl, inr, refl, sym, ◌∙◌, ap, subst, arith, nat_tests, cases_lt, cases_eq}
use Rattle.prl_plan.specs.Vocabulary.{task_at, sum_below, PlanView, IsPlan, release_at, deadline_at}
use Rattle.prl_plan.proofs.PlanFacts.{apart_at}
use Rattle.prl_edf.specs.Vocabulary.{unit_of, units_before}
use Rattle.prl_steady.proofs.Dates.{window}

-- a job of these is released and has units left
pub record IsReadyOf (plan : PlanView) (Jobs : ℕ → ℕ → Type 0) (run : ℕ → Option (ℕ × ℕ)) (t i n : ℕ) : Type 0 where
  pub job : Jobs i n
  pub released : release_at plan i n ≤ t
  pub left : units_before run t i n < (task_at plan.graph i).wcet

-- the plain run of these jobs, each of a task of the plan
pub record IsOver (plan : PlanView) (Jobs : ℕ → ℕ → Type 0) (run : ℕ → Option (ℕ × ℕ)) : Type 0 where
  pub task : (i n : ℕ) → Jobs i n → i < length plan.graph.tasks
  pub ready : (t i n : ℕ) → run t ≡ Some (i, n) → IsReadyOf plan Jobs run t i n
  pub earliest : (t i n j k : ℕ) → run t ≡ Some (i, n) → IsReadyOf plan Jobs run t j k → deadline_at plan i n ≤ deadline_at plan j k
  pub lowest : (t i n j k : ℕ) → run t ≡ Some (i, n) → IsReadyOf plan Jobs run t j k → deadline_at plan i n ≡ deadline_at plan j k → i ≤ j
  pub busy : (t j k : ℕ) → run t ≡ None → IsReadyOf plan Jobs run t j k → ⊥

pub some_or_none : (o : Option (ℕ × ℕ)) → (o ≡ None) ⊎ ((i : ℕ) × (n : ℕ) × (o ≡ Some (i, n)))
some_or_none None = inl refl
some_or_none (Some job) = inr (job.0, job.1, refl)

pub unit_here : (i n : ℕ) → unit_of (Some (i, n)) i n ≡ 1
unit_here i n = grind (arith, nat_tests)

pub unit_other : (j k i n : ℕ) → (i ≡ j → n ≡ k → ⊥) → unit_of (Some (j, k)) i n ≡ 0
unit_other j k i n other = grind (arith, nat_tests)

-- a job gets the tick, or it does not
pub gets_or_not : (o : Option (ℕ × ℕ)) (i n : ℕ) → (o ≡ Some (i, n)) ⊎ (unit_of o i n ≡ 0)
gets_or_not None i n = inr refl
gets_or_not (Some job) i n =
    elim (cases_eq job.0 i) [
      | inr other ↦ inr (unit_other job.0 job.1 i n (λ same _. other (sym same)))
      | inl task ↦ elim (cases_eq job.1 n) [
        | inr other ↦ inr (unit_other job.0 job.1 i n (λ _ same. other (sym same)))
        | inl number ↦ inl (λ d. Some (task d, number d))
      ]
    ]

module _ (run : ℕ → Option (ℕ × ℕ)) where
  pub up : (s t i n : ℕ) → s ≤ t → units_before run s i n ≤ units_before run t i n
  up s zero i n le = (let same : s ≡ 0 = omega (arith, le) in let e = ap (λ (x : ℕ). units_before run x i n) same in omega (arith, e))
  up s (suc t) i n le = elim (cases_lt t s) [
    | inl past ↦ (let same : s ≡ suc t = omega (arith, le, past) in let e = ap (λ (x : ℕ). units_before run x i n) same in omega (arith, e))
    | inr before ↦ (let rest = up s t i n before in omega (arith, rest))
  ]

  pub one_more : (t i n : ℕ) → run t ≡ Some (i, n) → units_before run (suc t) i n ≡ units_before run t i n + 1
  one_more t i n goes = (let e : unit_of (run t) i n ≡ 1 = ap (λ (o : Option (ℕ × ℕ)). unit_of o i n) goes ∙ unit_here i n in omega (arith, e))

  -- runs that agree before a tick give the same units before it
  pub units_same : (other : ℕ → Option (ℕ × ℕ)) (t i n : ℕ) → ((s : ℕ) → s < t → run s ≡ other s) → units_before run t i n ≡ units_before other t i n
  units_same other zero i n agree = refl
  units_same other (suc t) i n agree =
      let rest = units_same other t i n (λ s below. agree s (omega (arith, below))) in
      let here = ap (λ (o : Option (ℕ × ℕ)). unit_of o i n) (agree t (omega arith)) in
      omega (arith, rest, here)

module _ (plan : PlanView) (is : IsPlan plan) (Jobs : ℕ → ℕ → Type 0) (run : ℕ → Option (ℕ × ℕ)) (over : IsOver plan Jobs run) where
  pub never_more : (t i n : ℕ) → units_before run t i n ≤ (task_at plan.graph i).wcet
  never_more zero i n = omega arith
  never_more (suc t) i n = elim (gets_or_not (run t) i n) [
    | inl gets ↦ (let ready = over.ready t i n gets in let left = ready.left in let more = one_more run t i n gets in omega (arith, left, more))
    | inr without ↦ (let rest = never_more t i n in omega (arith, rest, without))
  ]

  pub none_yet : (t i n : ℕ) → t ≤ release_at plan i n → units_before run t i n ≡ 0
  none_yet zero i n le = refl
  none_yet (suc t) i n le = elim (gets_or_not (run t) i n) [
    | inl gets ↦ absurd (let ready = over.ready t i n gets in let released = ready.released in omega (arith, released, le))
    | inr without ↦ (let rest = none_yet t i n (omega (arith, le)) in omega (arith, rest, without))
  ]

-- jobs of one task and one deadline are one
pub one_number : (plan : PlanView) → IsPlan plan → (i m n : ℕ) → i < length plan.graph.tasks → deadline_at plan i m ≡ deadline_at plan i n → m ≡ n
one_number plan is i m n inside same = elim (cases_lt m n) [
  | inl before ↦ absurd (let apart = apart_at plan is i m n inside before in let w = window plan is i n inside in omega (arith, apart, w, same))
  | inr not_before ↦ elim (cases_lt n m) [
    | inl after ↦ absurd (let apart = apart_at plan is i n m inside after in let w = window plan is i m inside in omega (arith, apart, w, same))
    | inr not_after ↦ omega (arith, not_before, not_after)
  ]
]

module _ (plan : PlanView) (is : IsPlan plan) (First Second : ℕ → ℕ → Type 0) (one two : ℕ → Option (ℕ × ℕ)) (over_one : IsOver plan First one) (over_two : IsOver plan Second two) where
  -- where each goes to a job that is ready in the other, they go to the same
  the_one : (t i n j m : ℕ) → one t ≡ Some (j, m) → IsReadyOf plan First one t i n → two t ≡ Some (i, n) → IsReadyOf plan Second two t j m → (j ≡ i) × (m ≡ n)
  the_one t i n j m here ready there ready_there =
      let a = over_one.earliest t j m i n here ready in
      let b = over_two.earliest t i n j m there ready_there in
      let low = over_one.lowest t j m i n here ready (omega (arith, a, b)) in
      let low_there = over_two.lowest t i n j m there ready_there (omega (arith, a, b)) in
      let task : j ≡ i = omega (arith, low, low_there) in
      let at = ap (λ (v : ℕ). deadline_at plan v m) task in
      (task, one_number plan is i m n (over_one.task i n ready.job) (omega (arith, at, a, b)))

  -- where the jobs of the first run that are released before a tick are jobs of the second, they have had no fewer units in the first
  pub ahead : (bound : ℕ) → ((i n : ℕ) → First i n → release_at plan i n < bound → Second i n) → (t : ℕ) → t ≤ bound → (i n : ℕ) → First i n →
      units_before two t i n ≤ units_before one t i n
  ahead bound more zero within i n job = omega arith
  ahead bound more (suc t) within i n job =
      let rest = ahead bound more t (omega (arith, within)) i n job in
      let rise = up one t (suc t) i n (omega arith) in
      elim (gets_or_not (two t) i n) [
        | inr without ↦ omega (arith, rest, rise, without)
        | inl gets ↦
            (let step = one_more two t i n gets in
            elim (cases_lt (units_before two t i n) (units_before one t i n)) [
              | inl less ↦ omega (arith, less, step, rise)
              | inr level ↦
                  (let its = over_two.ready t i n gets in
                  let left = its.left in
                  let ready : IsReadyOf plan First one t i n = record { job = job; released = its.released; left = omega (arith, left, rest, level) } in
                  elim (some_or_none (one t)) [
                    | inl none ↦ absurd (over_one.busy t i n none ready)
                    | inr some ↦
                        (let here = over_one.ready t some.0 some.1 some.2 in
                        let here_released = here.released in
                        let here_left = here.left in
                        let low = ahead bound more t (omega (arith, within)) some.0 some.1 here.job in
                        let there : IsReadyOf plan Second two t some.0 some.1 = record {
                          job = more some.0 some.1 here.job (omega (arith, here_released, within));
                          released = here_released;
                          left = omega (arith, here_left, low);
                        } in
                        let same = the_one t i n some.0 some.1 some.2 ready gets there in
                        let goes : one t ≡ Some (i, n) = some.2 ∙ (λ d. Some (same.0 d, same.1 d)) in
                        let here_step = one_more one t i n goes in
                        omega (arith, rest, here_step, step))
                  ])
            ])
      ]

module _ (plan : PlanView) (is : IsPlan plan) (First Second : ℕ → ℕ → Type 0) (one two : ℕ → Option (ℕ × ℕ)) (over_one : IsOver plan First one) (over_two : IsOver plan Second two)
    (bound : ℕ) (forth : (i n : ℕ) → First i n → release_at plan i n < bound → Second i n) (back : (i n : ℕ) → Second i n → release_at plan i n < bound → First i n) where
  -- so where both have the jobs that are released before a tick, these have had the same units in both
  pub level : (t : ℕ) → t ≤ bound → (i n : ℕ) → First i n → Second i n → units_before one t i n ≡ units_before two t i n
  level t within i n job other =
      let a = ahead plan is First Second one two over_one over_two bound forth t within i n job in
      let b = ahead plan is Second First two one over_two over_one bound back t within i n other in
      omega (arith, a, b)

  -- and each tick before it goes to the same
  pub agree : (t : ℕ) → t < bound → one t ≡ two t
  agree t within = elim (some_or_none (one t)) [
    | inr some ↦
        (let its = over_one.ready t some.0 some.1 some.2 in
        let released = its.released in
        let other = forth some.0 some.1 its.job (omega (arith, released, within)) in
        let before = level t (omega (arith, within)) some.0 some.1 its.job other in
        let after = level (suc t) (omega (arith, within)) some.0 some.1 its.job other in
        let step = one_more one t some.0 some.1 some.2 in
        elim (gets_or_not (two t) some.0 some.1) [
          | inl gets ↦ some.2 ∙ sym gets
          | inr without ↦ absurd (omega (arith, before, after, step, without))
        ])
    | inl none ↦ elim (some_or_none (two t)) [
      | inl none_there ↦ none ∙ sym none_there
      | inr some ↦ absurd
          (let its = over_two.ready t some.0 some.1 some.2 in
          let released = its.released in
          let left = its.left in
          let job = back some.0 some.1 its.job (omega (arith, released, within)) in
          let before = level t (omega (arith, within)) some.0 some.1 job its.job in
          over_one.busy t some.0 some.1 none (record { job = job; released = released; left = omega (arith, before, left) }))
    ]
  ]
