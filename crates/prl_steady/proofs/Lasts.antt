-- The times of the run up to the second hyperperiod after all tasks have started are those of the endless run.
use Rattle.prl_base.proofs.Standard.{◌≡◌, ◌+◌, ◌-◌, ◌*◌, ◌<◌, ◌≤◌, ◌⊎◌, ℕ, zero, suc, length, Option, Some, None, inl, inr, refl, sym, ◌∙◌, ap, subst, arith, cases_lt, same_Some}
use Rattle.prl_plan.specs.declared.horizons.Horizon.{Horizon}
use Rattle.prl_plan.specs.Vocabulary.{HasPlanFacts, IsJob, constants_of, task_at, PlanView, IsPlan, release_at, deadline_at}
use Rattle.prl_plan.proofs.RoundPeriods.{task_is}
use Rattle.prl_overlaps.specs.Demand.{wcets_of}
use Rattle.prl_edf.specs.Vocabulary.{IsPlainRun, MeetsAllWindows, unit_of, units_before}
use Rattle.prl_ages.specs.Ages.{released, due_by}
use Rattle.prl_responses.specs.Responses.{AreTimes, IsLastTick, IsTimesOf}
use Rattle.prl_responses.specs.declared.responses.Times.{Times}
use Rattle.prl_tables.specs.Tables.{classes}
use Rattle.prl_table.specs.Made.{cut_from, later, run_until}
use Rattle.prl_forever.specs.Forever.{load_of}
use Rattle.prl_steady.proofs.Dates.{AreCounted, in_horizon, own_later}
use Rattle.prl_steady.proofs.Over.{IsOver, agree, ahead, gets_or_not, level, never_more, one_more, some_or_none, unit_here, up}
use Rattle.prl_steady.proofs.Endless.{All, plain_over}
use Rattle.prl_steady.proofs.Steady.{levels, repeats}

-- a job that has its WCET after a tick that goes to it has no later one
full_last : (plan : PlanView) (Jobs : ℕ → ℕ → Type 0) (run : ℕ → Option (ℕ × ℕ)) → IsOver plan Jobs run → (i n t : ℕ) → run t ≡ Some (i, n) →
    units_before run (suc t) i n ≡ (task_at plan.graph i).wcet → IsLastTick run i n t
full_last plan Jobs run over i n t goes full = record {
  goes = goes;
  last = λ u there. elim (cases_lt t u) [
    | inr before ↦ before
    | inl after ↦ absurd
        (let its = over.ready u i n there in let left = its.left in let more = up run (suc t) u i n (omega (arith, after)) in omega (arith, full, left, more))
  ];
}

-- without a tick behind t a job has no more units than after it
none_behind : (run : ℕ → Option (ℕ × ℕ)) (i n t : ℕ) → ((u : ℕ) → run u ≡ Some (i, n) → u ≤ t) → (s : ℕ) → units_before run s i n ≤ units_before run (suc t) i n
none_behind run i n t last zero = omega arith
none_behind run i n t last (suc s) = elim (cases_lt t s) [
  | inr before ↦ up run (suc s) (suc t) i n (omega (arith, before))
  | inl after ↦ elim (gets_or_not (run s) i n) [
    | inl gets ↦ absurd (let h = last s gets in omega (arith, h, after))
    | inr without ↦ (let rest = none_behind run i n t last s in omega (arith, rest, without))
  ]
]

-- of the ticks before s that go to a job there is a last one
last_before : (run : ℕ → Option (ℕ × ℕ)) (i n s : ℕ) → 1 ≤ units_before run s i n →
    (t : ℕ) × (run t ≡ Some (i, n)) × ((u : ℕ) → u < s → run u ≡ Some (i, n) → u ≤ t)
last_before run i n zero some = absurd (omega (arith, some))
last_before run i n (suc s) some = elim (gets_or_not (run s) i n) [
  | inl gets ↦ (s, gets, λ u below _. omega (arith, below))
  | inr without ↦
      (let rest = last_before run i n s (omega (arith, some, without)) in (
        rest.0,
        rest.1,
        λ u below goes. elim (cases_lt u s) [
          | inl less ↦ rest.2 u less goes
          | inr past ↦ absurd
              (let same : u ≡ s = omega (arith, below, past) in
              let here : run s ≡ Some (i, n) = subst (λ (x : ℕ). run x ≡ Some (i, n)) same goes in
              let e : unit_of (run s) i n ≡ 1 = ap (λ (o : Option (ℕ × ℕ)). unit_of o i n) here ∙ unit_here i n in
              omega (arith, e, without))
        ],
      ))
]

module _ (plan : PlanView) (is : IsPlan plan) (counted : AreCounted plan) (light : load_of plan ≤ plan.graph.hyper)
    (h : Horizon) (facts : HasPlanFacts (constants_of plan h)) (far : h.until ≡ run_until plan)
    (one : ℕ → Option (ℕ × ℕ)) (plain : IsPlainRun (constants_of plan h) (wcets_of plan) one) (met_one : MeetsAllWindows (constants_of plan h) (wcets_of plan) one)
    (run : ℕ → Option (ℕ × ℕ)) (over : IsOver plan (All plan) run)
    (met : (i n : ℕ) → i < length plan.graph.tasks → units_before run (deadline_at plan i n) i n ≡ (task_at plan.graph i).wcet) where
  over_one : IsOver plan (IsJob (constants_of plan h)) one
  over_one = plain_over plan (constants_of plan h) refl refl refl (λ i n job. facts.within i n job) one plain met_one

  job_in : (i n : ℕ) → i < length plan.graph.tasks → release_at plan i n < h.until → IsJob (constants_of plan h) i n
  job_in i n inside early = record { task = inside; job = in_horizon plan is counted h.until i n inside early }

  same_tick : (t : ℕ) → t < h.until → one t ≡ run t
  same_tick t early = agree plan is (IsJob (constants_of plan h)) (All plan) one run over_one over h.until (λ i n job _. job.task) (λ i n job before. job_in i n job before) t early

  -- a job has its WCET after its last tick
  last_full : (i n t : ℕ) → IsLastTick run i n t → units_before run (suc t) i n ≡ (task_at plan.graph i).wcet
  last_full i n t last =
      let inside = (over.ready t i n last.goes).job in
      let all = met i n inside in
      let none = none_behind run i n t (λ u goes. last.last u goes) (deadline_at plan i n) in
      let most = never_more plan is (All plan) run over (suc t) i n in
      omega (arith, all, none, most)

  last_early : (i n t : ℕ) → t < h.until → IsLastTick run i n t → IsLastTick one i n t
  last_early i n t early last =
      let its = over.ready t i n last.goes in
      let released = its.released in
      let same = level plan is (IsJob (constants_of plan h)) (All plan) one run over_one over h.until (λ j m job _. job.task) (λ j m job before. job_in j m job before)
      (suc t) (omega (arith, early)) i n (job_in i n its.job (omega (arith, released, early))) its.job in
      let full = last_full i n t last in
      full_last plan (IsJob (constants_of plan h)) one over_one i n t (same_tick t early ∙ last.goes) (omega (arith, same, full))

  -- what a tick goes to, a hyperperiod before
  before_it : (t i n : ℕ) → later plan (run t) ≡ Some (i, n) → (m : ℕ) × (run t ≡ Some (i, m)) × (m + classes plan.graph i ≡ n)
  before_it t i n is = elim (some_or_none (run t)) [
    | inl none ↦ absurd (let e : ◌≡◌ {A = Option (ℕ × ℕ)} None (Some (i, n)) = sym (ap (later plan) none) ∙ is in cc)
    | inr some ↦
        (let e : ◌≡◌ {A = Option (ℕ × ℕ)} (Some (some.0, some.1 + classes plan.graph some.0)) (Some (i, n)) = sym (ap (later plan) some.2) ∙ is in
        let pair = same_Some (some.0, some.1 + classes plan.graph some.0) (i, n) e in
        let task : some.0 ≡ i = ap (λ (x : ℕ × ℕ). x.0) pair in
        let number : some.1 + classes plan.graph some.0 ≡ n = ap (λ (x : ℕ × ℕ). x.1) pair in
        let many = ap (λ (v : ℕ). classes plan.graph v) task in
        (some.1, some.2 ∙ (λ d. Some (task d, some.1)), omega (arith, number, many)))
  ]

  -- a job of that run ends as late after its release
  abbrev AsSoon : ℕ → ℕ → ℕ → Type 0
  AsSoon i n t = (s : ℕ) × (m : ℕ) × IsLastTick one i m s × (t + released plan.graph i m ≡ s + released plan.graph i n)

  as_soon : (fuel t i n : ℕ) → t ≤ fuel → IsLastTick run i n t → AsSoon i n t
  as_soon zero t i n few last = (t, n, last_early i n t (let some = is.graph.hyper in omega (arith, few, far, some)) last, refl)
  as_soon (suc fuel) t i n few last = elim (cases_lt t h.until) [
    | inl early ↦ (t, n, last_early i n t early last, refl)
    | inr late ↦
        (let some = is.graph.hyper in
        let inside = (over.ready t i n last.goes).job in
        let back : t - plan.graph.hyper + plan.graph.hyper ≡ t = omega (arith, late, far) in
        let steady = repeats plan is run over met counted light (t - plan.graph.hyper) (omega (arith, late, far)) in
        let goes : later plan (run (t - plan.graph.hyper)) ≡ Some (i, n) = steady ∙ ap run back ∙ last.goes in
        let m = before_it (t - plan.graph.hyper) i n goes in
        let number = m.2 in
        let same = levels plan is run over met counted light (suc (t - plan.graph.hyper)) (omega (arith, late, far)) i m.0 inside in
        let at : suc (t - plan.graph.hyper) + plan.graph.hyper ≡ suc t = omega (arith, late, far) in
        let moved = ap (λ (x : ℕ). units_before run x i (m.0 + classes plan.graph i)) at in
        let renamed = ap (λ (x : ℕ). units_before run (suc t) i x) number in
        let full = last_full i n t last in
        let before = full_last plan (All plan) run over i m.0 (t - plan.graph.hyper) m.1 (omega (arith, same, moved, renamed, full)) in
        let rest = as_soon fuel (t - plan.graph.hyper) i m.0 (omega (arith, few, some, late, far)) before in
        let own = own_later plan is i m.0 inside in
        let owns = ap (λ (x : ℕ). released plan.graph i x) number in
        let sums = rest.3 in
        (rest.0, rest.1, rest.2, omega (arith, sums, own, owns, back)))
  ]

  last_of : (i n : ℕ) → i < length plan.graph.tasks → (t : ℕ) × IsLastTick run i n t
  last_of i n inside =
      let all = met i n inside in
      let some = (task_is plan.graph is.graph i inside).wcet.0 in
      let found = last_before run i n (deadline_at plan i n) (omega (arith, all, some)) in (
        found.0,
        record {
          goes = found.1;
          last = λ u goes. elim (cases_lt u (deadline_at plan i n)) [
            | inl early ↦ found.2 u early goes
            | inr late ↦ absurd
                (let its = over.ready u i n goes in let left = its.left in let more = up run (deadline_at plan i n) u i n late in omega (arith, all, left, more))
          ];
        },
      )

  -- and a job of that run ends no later in it
  no_later : (i n s t : ℕ) → IsLastTick one i n s → IsLastTick run i n t → s ≤ t
  no_later i n s t first last =
      let its = over_one.ready s i n first.goes in
      let left = its.left in
      let fewer = ahead plan is (IsJob (constants_of plan h)) (All plan) one run over_one over s (λ j m job _. job.task) s (omega arith) i n its.job in
      let full = last_full i n t last in
      elim (cases_lt t s) [
        | inr past ↦ past
        | inl before ↦ absurd (let more = up run (suc t) s i n (omega (arith, before)) in omega (arith, left, fewer, full, more))
      ]

  module _ (i : ℕ) (inside : i < length plan.graph.tasks) (times : Times) (are : AreTimes plan.graph one i times) where
    slow_bound : (n t : ℕ) → IsLastTick run i n t → t + 1 ≤ released plan.graph i n + times.response
    slow_bound n t last = (let a = as_soon t t i n (omega arith) last in let sums = a.3 in let b = are.response a.1 a.0 a.2 in omega (arith, sums, b))

    tight_bound : (n t : ℕ) → IsLastTick run i n t → t + 1 + times.slack ≤ due_by plan.graph i n
    tight_bound n t last = (let a = as_soon t t i n (omega arith) last in let sums = a.3 in let b = are.slack a.1 a.0 a.2 in omega (arith, sums, b))

    slowest_is : (t : ℕ) × IsLastTick run i times.slowest t × (t + 1 ≡ released plan.graph i times.slowest + times.response)
    slowest_is =
        let last = last_of i times.slowest inside in
        let low = no_later i times.slowest are.slowest.0 last.0 are.slowest.1 last.1 in
        let high = slow_bound times.slowest last.0 last.1 in
        let e = are.slowest.2 in
        (last.0, last.1, omega (arith, low, high, e))

    tightest_is : (t : ℕ) × IsLastTick run i times.tightest t × (t + 1 + times.slack ≡ due_by plan.graph i times.tightest)
    tightest_is =
        let last = last_of i times.tightest inside in
        let low = no_later i times.tightest are.tightest.0 last.0 are.tightest.1 last.1 in
        let high = tight_bound times.tightest last.0 last.1 in
        let e = are.tightest.2 in
        (last.0, last.1, omega (arith, low, high, e))

    pub are_times : AreTimes plan.graph run i times
    are_times = record { response = slow_bound; slowest = slowest_is; slack = tight_bound; tightest = tightest_is }

  pub times_last : (i : ℕ) → i < length plan.graph.tasks → (times : Option Times) → IsTimesOf plan.graph one i times → IsTimesOf plan.graph run i times
  times_last i inside None none = λ n t goes.
      (let last = last_of i n inside in let a = as_soon last.0 last.0 i n (omega arith) last.1 in none a.1 a.0 a.2.goes)
  times_last i inside (Some times) are = are_times i inside times are
