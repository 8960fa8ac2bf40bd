-- Of each plan a table is made, or there is a fault.
use Rattle.prl_base.proofs.Standard.{◌≡◌, ◌≢◌, ◌+◌, ◌<◌, ◌≤◌, ◌^◌, ◌⊎◌, ◌==◌, ◌&&◌, ℕ, Bool, true, false, List, [], ◌∷◌, length, Option, Some, None, inl, inr, refl, sym, ◌∙◌, ap, subst, arith, ◌||◌}
use Rattle.prl_base.proofs.Standard.{nat_lt, nat_le, IsPermutation, cases_eq, cases_lt, cases_order, eq-eqb, nat_tests, IsPermutation-cons, IsPermutation-middle, IsPermutation-refl, IsPermutation-sym}
use Rattle.prl_base.proofs.Standard.{IsPermutation-trans}
use Rattle.prl_base.specs.declared.limits.Limit.{Limit}
use Rattle.prl_base.specs.declared.numbers.TaskNo.{TaskNo}
use Rattle.prl_edf.specs.Vocabulary.{run_of, AreUnits, wcets_of, IsVerdict}
use Rattle.prl_edf.specs.declared.analysis.Verdict.{Verdict}
use Rattle.prl_edf.specs.declared.runs.Timed.{Timed}
use Rattle.prl_edf.specs.declared.analysis.Verdict.TheVariants as verdicts
use Rattle.prl_plan.specs.Vocabulary.{HasPlanFacts, IsHorizon, IsPastLimit, constants_of, PlanView, IsPlan, RunConstants}
use Rattle.prl_plan.specs.declared.horizons.Horizon.{Horizon}
use Rattle.prl_plan.proofs.RoundPeriods.{task_is}
use Rattle.prl_plan.proofs.Searches.{all_or_least}
use Rattle.prl_tables.specs.TableTexts.{AreOrdered, comes_after, keeps_order}
use Rattle.prl_overlaps.specs.declared.entries.Entry.{Entry}
use Rattle.prl_table.specs.Vocabulary.{MakeFault, cut_from, cut_to, later, run_until, IsSteadyRun, IsLongRun, IsMade, IsMakeFault, IsUnsteadyAt, job_in}
use Rattle.prl_table.specs.declared.making.MakeFault.TheVariants as faults

-- tests that hold
less_is : (a b : ℕ) → a < b → nat_lt a b ≡ true
less_is a b h = grind (arith, nat_tests)

within_is : (a b : ℕ) → a ≤ b → nat_le a b ≡ true
within_is a b h = grind (arith, nat_tests)

first_of : (x y : Bool) → x ≡ true → (x || y) ≡ true
first_of x y is = subst (λ (b : Bool). (b || y) ≡ true) (sym is) refl

second_of : (x y : Bool) → y ≡ true → (x || y) ≡ true
second_of true y is = refl
second_of false y is = is

both_of : (x y : Bool) → x ≡ true → y ≡ true → (x && y) ≡ true
both_of x y first second = subst (λ (b : Bool). (b && y) ≡ true) (sym first) second

-- of two entries one does not come before the other
by_job : (a b : Entry) → a.at ≡ b.at → a.task.0 ≡ b.task.0 → a.job ≤ b.job → comes_after a b ≡ true
by_job a b at task job =
    second_of (nat_lt a.at b.at) ((a.at == b.at) && (nat_lt a.task.0 b.task.0 || ((a.task.0 == b.task.0) && nat_le a.job b.job)))
    (both_of (a.at == b.at) (nat_lt a.task.0 b.task.0 || ((a.task.0 == b.task.0) && nat_le a.job b.job)) (eq-eqb a.at b.at at)
    (second_of (nat_lt a.task.0 b.task.0) ((a.task.0 == b.task.0) && nat_le a.job b.job)
    (both_of (a.task.0 == b.task.0) (nat_le a.job b.job) (eq-eqb a.task.0 b.task.0 task) (within_is a.job b.job job))))

by_task : (a b : Entry) → a.at ≡ b.at → a.task.0 < b.task.0 → comes_after a b ≡ true
by_task a b at task =
    second_of (nat_lt a.at b.at) ((a.at == b.at) && (nat_lt a.task.0 b.task.0 || ((a.task.0 == b.task.0) && nat_le a.job b.job)))
    (both_of (a.at == b.at) (nat_lt a.task.0 b.task.0 || ((a.task.0 == b.task.0) && nat_le a.job b.job)) (eq-eqb a.at b.at at)
    (first_of (nat_lt a.task.0 b.task.0) ((a.task.0 == b.task.0) && nat_le a.job b.job) (less_is a.task.0 b.task.0 task)))

by_time : (a b : Entry) → a.at < b.at → comes_after a b ≡ true
by_time a b at = first_of (nat_lt a.at b.at) ((a.at == b.at) && (nat_lt a.task.0 b.task.0 || ((a.task.0 == b.task.0) && nat_le a.job b.job))) (less_is a.at b.at at)

either_order : (a b : Entry) → (comes_after a b ≡ true) ⊎ (comes_after b a ≡ true)
either_order a b = elim (cases_order a.at b.at) [
  | inr apart ↦ elim apart [ inl less ↦ inl (by_time a b less) | inr more ↦ inr (by_time b a more) ]
  | inl at ↦ elim (cases_order a.task.0 b.task.0) [
    | inr apart ↦ elim apart [ inl less ↦ inl (by_task a b at less) | inr more ↦ inr (by_task b a (sym at) more) ]
    | inl task ↦ elim (cases_lt b.job a.job) [
      | inl more ↦ inr (by_job b a (sym at) (sym task) (omega (arith, more)))
      | inr less ↦ inl (by_job a b at task less)
    ]
  ]
]

-- an entry put among entries in order
some_put : (last : Option Entry) (e : Entry) (xs : List Entry) → AreOrdered last xs → keeps_order last e ≡ true →
    (ys : List Entry) × IsPermutation (e ∷ xs) ys × AreOrdered last ys
some_put last e [] ordered keeps = (e ∷ [], IsPermutation-refl (e ∷ []), (keeps, tt))
some_put last e (x ∷ xs) ordered keeps = elim (either_order e x) [
  | inl before ↦ (e ∷ x ∷ xs, IsPermutation-refl (e ∷ x ∷ xs), (keeps, (before, ordered.1)))
  | inr after ↦
      (let rest = some_put (Some x) e xs ordered.1 after in (
        x ∷ rest.0,
        IsPermutation-trans (e ∷ x ∷ xs) (x ∷ e ∷ xs) (x ∷ rest.0) (IsPermutation-sym (x ∷ e ∷ xs) (e ∷ x ∷ xs) (IsPermutation-middle (x ∷ []) e xs))
            (IsPermutation-cons x (e ∷ xs) rest.0 rest.1),
        (ordered.0, rest.2),
      ))
]

some_order : (xs : List Entry) → (ys : List Entry) × IsPermutation xs ys × AreOrdered None ys
some_order [] = ([], IsPermutation-refl [], tt)
some_order (x ∷ xs) =
    let rest = some_order xs in
    let put = some_put None x rest.0 rest.2 refl in
    (put.0, IsPermutation-trans (x ∷ xs) (x ∷ rest.0) put.0 (IsPermutation-cons x xs rest.0 rest.1) put.1, put.2)

-- what a tick goes to, as it is told
told_of : Option (ℕ × ℕ) → Option (TaskNo × ℕ)
told_of None = None
told_of (Some job) = Some (record { 0 = job.0 }, job.1)

told_in : (o : Option (ℕ × ℕ)) → job_in (told_of o) ≡ o
unfolding told_of
told_in None = refl
told_in (Some job) = refl

-- what two ticks go to can be told apart
ticks_tell : (a b : Option (ℕ × ℕ)) → (a ≡ b) ⊎ (a ≡ b → ⊥)
ticks_tell None None = inl refl
ticks_tell None (Some q) = inr (λ same. cc)
ticks_tell (Some p) None = inr (λ same. cc)
ticks_tell (Some p) (Some q) = elim (cases_eq p.0 q.0) [
  | inr apart ↦ inr (λ same. apart (ap (λ (x : ℕ × ℕ). x.0) (one_pair p q same)))
  | inl task ↦ elim (cases_eq p.1 q.1) [
    | inr apart ↦ inr (λ same. apart (ap (λ (x : ℕ × ℕ). x.1) (one_pair p q same)))
    | inl job ↦ inl (ap (λ (i : ℕ). some_pair i p.1) task ∙ ap (λ (n : ℕ). some_pair q.0 n) job)
  ]
]
  where
    some_pair : ℕ → ℕ → Option (ℕ × ℕ)
    some_pair i n = Some (i, n)

    one_pair : (p q : ℕ × ℕ) → Some p ≡ Some q → p ≡ q
    one_pair p q e = cc

-- the laws of the crates below
pub record Laws (plan : PlanView) : Type 0 where
  pub horizon : (until : ℕ) → until < 2 ^ 32 → ((horizon : Horizon) × IsHorizon plan horizon × (horizon.until ≡ until)) ⊎ ((limit : Limit) × IsPastLimit plan until limit)
  pub facts : (horizon : Horizon) → IsHorizon plan horizon → HasPlanFacts (constants_of plan horizon)
  pub verdict : (c : RunConstants) → HasPlanFacts c → (cost : ℕ → ℕ → ℕ) → AreUnits c cost cost → (verdict : Verdict) × IsVerdict c cost verdict

module _ (plan : PlanView) (is : IsPlan plan) (laws : Laws plan) where
  abbrev pub MadeOrFault : Type 0
  MadeOrFault = ((entries : List Entry) × IsMade plan entries) ⊎ ((fault : MakeFault) × (fault ≢ faults.Memory) × IsMakeFault plan fault)

  costs : (horizon : Horizon) → AreUnits (constants_of plan horizon) (wcets_of plan) (wcets_of plan)
  costs horizon i n job = (let wcet = (task_is plan.graph is.graph i job.task).wcet.0 in (wcet, omega arith))

  abbrev SteadyAt : (ℕ → Option (ℕ × ℕ)) → ℕ → Type 0
  SteadyAt run t = cut_from plan ≤ t → later plan (run t) ≡ run (t + plan.graph.hyper)

  abbrev UnsteadyAt : (ℕ → Option (ℕ × ℕ)) → ℕ → Type 0
  UnsteadyAt run t = (cut_from plan ≤ t) × (later plan (run t) ≡ run (t + plan.graph.hyper) → ⊥)

  steady_or_not : (run : ℕ → Option (ℕ × ℕ)) (t : ℕ) → SteadyAt run t ⊎ UnsteadyAt run t
  steady_or_not run t = elim (cases_lt t (cut_from plan)) [
    | inl early ↦ inl (λ from. absurd (omega (arith, early, from)))
    | inr from ↦ elim (ticks_tell (later plan (run t)) (run (t + plan.graph.hyper))) [ inl same ↦ inl (λ _. same) | inr differ ↦ inr (from, differ) ]
  ]

  by_run : (horizon : Horizon) (timed : Timed) → IsLongRun plan horizon timed → MadeOrFault
  by_run horizon timed long =
      elim (all_or_least (SteadyAt (run_of timed.pieces)) (UnsteadyAt (run_of timed.pieces)) (steady_or_not (run_of timed.pieces)) (cut_from plan + plan.graph.hyper)) [
        | inl all ↦
            (let cut = some_order (cut_to plan (run_of timed.pieces) (cut_from plan) plan.graph.hyper) in
            let steady : IsSteadyRun plan (run_of timed.pieces) = λ t from to. all t to from in
            inl (cut.0, record { within = horizon; timed = timed; run = long; steady = steady; cut = cut.1; ordered = cut.2 }))
        | inr least ↦
            (let at : ℕ = least.0 in
            let tick : IsUnsteadyAt plan (run_of timed.pieces) least.0 = record {
              from = least.1.is.0;
              to = least.1.below;
              differ = least.1.is.1;
              before = λ t from less. least.1.earlier t less from;
            } in
            inr (
              faults.Unsteady at (told_of (run_of timed.pieces at)) (told_of (run_of timed.pieces (at + plan.graph.hyper))),
              (λ same. cc),
              (
                horizon,
                timed,
                long,
                record {
                  tick = tick;
                  first_is = told_in (run_of timed.pieces least.0);
                  second_is = told_in (run_of timed.pieces (least.0 + plan.graph.hyper));
                },
              ),
            ))
      ]

  by_verdict : (horizon : Horizon) → IsHorizon plan horizon → horizon.until ≡ run_until plan → run_until plan ≤ 2147483647 → (verdict : Verdict) →
      IsVerdict (constants_of plan horizon) (wcets_of plan) verdict → MadeOrFault
  by_verdict horizon of until near (verdicts.Run timed) told = by_run horizon timed (record { is_horizon = of; until = until; near = near; run = told.1 })
  by_verdict horizon of until near (verdicts.Overload from to asked) told = inr (faults.Overload from to asked, (λ same. cc), (near, horizon, of, until, told))

  pub made_or_faulty : MadeOrFault
  made_or_faulty = elim (cases_lt 2147483647 (run_until plan)) [
    | inl far ↦ inr (faults.TooFar (run_until plan), (λ same. cc), (refl, far))
    | inr near ↦ elim (laws.horizon (run_until plan) (omega (arith, near))) [
      | inr past ↦ inr (faults.Limit past.0, (λ same. cc), (near, past.1))
      | inl long ↦
          (let verdict = laws.verdict (constants_of plan long.0) (laws.facts long.0 long.1) (wcets_of plan) (costs long.0) in
          by_verdict long.0 long.1 long.2 near verdict.0 verdict.1)
    ]
  ]
