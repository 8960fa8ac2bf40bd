-- A good table tells a timed run in which each job has its WCET within its window.
use Rattle.prl_base.proofs.Standard.{◌≡◌, ◌+◌, ◌*◌, ◌-◌, ◌/◌, ◌%◌, ◌<◌, ◌≤◌, ◌⊎◌, ℕ, zero, suc, Bool, true, false, List, [], ◌∷◌, length, Option, Some, None, inl, inr, refl, sym, ◌∙◌, ap, subst, arith, ints, pos}
use Rattle.prl_base.proofs.Standard.{cond, nat_lt, nat_tests, slice_get, cases_lt, cases_eq}
use Rattle.prl_plan.specs.Vocabulary.{encoded_release, encoded_deadline, task_at, job_count, IsJob, RunConstants, constants_of, sum_below, PlanView, IsPlan, release_at, deadline_at}
use Rattle.prl_plan.specs.declared.horizons.Horizon.{Horizon}
use Rattle.prl_plan.proofs.DatePeriods.{least_repeat, greatest_repeat}
use Rattle.prl_plan.proofs.PartsOfSums.{part_of_sum}
use Rattle.prl_overlaps.specs.Demand.{wcets_of, IsOverloaded}
use Rattle.prl_edf.specs.TimedRuns.{unit_of, units_before, IsTimedRun}
use Rattle.prl_edf.specs.MetWindows.{MeetsAllWindows}
use Rattle.prl_tables.specs.Vocabulary.{Entry, classes, IsPiece, IsGood}
use Rattle.prl_tables.proofs.Shifts.{shifted, split, below}
use Rattle.prl_forever.specs.TableRuns.{goes_to, has_tick, in_horizon, table_run}
use Rattle.prl_forever.specs.Forever.{ServesForEver}
use Rattle.prl_forever.proofs.Ticks.{AreAllShort, one_hit, units_all, units_early, units_most, units_none, units_step, units_to}

-- what a tick goes to
some_or_none : (o : Option (ℕ × ℕ)) → (o ≡ None) ⊎ ((i : ℕ) × (n : ℕ) × (o ≡ Some (i, n)))
some_or_none None = inl refl
some_or_none (Some job) = inr (job.0, job.1, refl)

unit_here : (i n : ℕ) → unit_of (Some (i, n)) i n ≡ 1
unit_here i n = grind (arith, nat_tests)

units_up : (run : ℕ → Option (ℕ × ℕ)) (i n s t : ℕ) → s ≤ t → units_before run s i n ≤ units_before run t i n
units_up run i n s zero h = (let same : s ≡ 0 = omega (arith, h) in rw same (omega arith))
units_up run i n s (suc t) h = elim (cases_lt t s) [
  | inl past ↦ (let same : s ≡ suc t = omega (arith, h, past) in rw same (omega arith))
  | inr before ↦ (let rest = units_up run i n s t before in omega (arith, rest))
]

-- the filter passes jobs of the horizon alone, and these as they are
passes : (c : RunConstants) (o : Option (ℕ × ℕ)) (i n : ℕ) → in_horizon c o ≡ Some (i, n) → (n < c.jobs i) × (o ≡ Some (i, n))
passes c None i n is = (let e : ◌≡◌ {A = Option (ℕ × ℕ)} None (Some (i, n)) = is in cc)
passes c (Some job) i n is = elim (cases_lt job.1 (c.jobs job.0)) [
  | inr past ↦ absurd
      (let no_test : nat_lt job.1 (c.jobs job.0) ≡ false = grind (arith, nat_tests, past) in
      let e : ◌≡◌ {A = Option (ℕ × ℕ)} None (Some (i, n)) = sym (ap (λ (b : Bool). cond b (Some job) None) no_test) ∙ is in cc)
  | inl inside ↦
      (let test : nat_lt job.1 (c.jobs job.0) ≡ true = grind (arith, nat_tests, inside) in
      let e : Some job ≡ Some (i, n) = sym (ap (λ (b : Bool). cond b (Some job) None) test) ∙ is in
      (told e inside, e))
]
  where
    task_of : Option (ℕ × ℕ) → ℕ
    task_of None = 0
    task_of (Some job) = job.0

    number_of : Option (ℕ × ℕ) → ℕ
    number_of None = 0
    number_of (Some job) = job.1

    told : Some job ≡ Some (i, n) → job.1 < c.jobs job.0 → n < c.jobs i
    told e inside = subst (λ (v : ℕ). n < c.jobs v) (ap task_of e) (subst (λ (v : ℕ). v < c.jobs job.0) (ap number_of e) inside)

unit_passes : (c : RunConstants) (o : Option (ℕ × ℕ)) (i n : ℕ) → n < c.jobs i → unit_of (in_horizon c o) i n ≡ unit_of o i n
unit_passes c None i n inside = refl
unit_passes c (Some job) i n inside = elim (cases_lt job.1 (c.jobs job.0)) [
  | inl its ↦
      (let test : nat_lt job.1 (c.jobs job.0) ≡ true = grind (arith, nat_tests, its) in
      ap (λ (b : Bool). unit_of (cond b (Some job) None) i n) test)
  | inr past ↦
      (let no_test : nat_lt job.1 (c.jobs job.0) ≡ false = grind (arith, nat_tests, past) in
      ap (λ (b : Bool). unit_of (cond b (Some job) None) i n) no_test ∙ sym (other past))
]
  where
    other : c.jobs job.0 ≤ job.1 → unit_of (Some job) i n ≡ 0
    other past = elim (cases_eq job.0 i) [
      | inr differs ↦ grind (arith, nat_tests, differs)
      | inl task ↦
          (let few = ap c.jobs task in
          let differs : job.1 ≡ n → ⊥ = λ same. omega (arith, same, few, past, inside) in grind (arith, nat_tests, differs))
    ]

-- what a tick goes to is a job of a task
is_task : (plan : PlanView) (entries : List Entry) (t i n : ℕ) → ((k : ℕ) (entry : Entry) → slice_get entries k ≡ Some entry → entry.task.0 < length plan.graph.tasks) →
    goes_to plan.graph entries t ≡ Some (i, n) → i < length plan.graph.tasks
is_task plan [] t i n are is = (let e : ◌≡◌ {A = Option (ℕ × ℕ)} None (Some (i, n)) = is in cc)
is_task plan (entry ∷ entries) t i n are is = go (is_task plan entries t i n (λ k other at. are (suc k) other at)) (has_tick plan.graph.hyper entry t) refl
  where
    task_of : Option (ℕ × ℕ) → ℕ
    task_of None = 0
    task_of (Some job) = job.0

    go : (goes_to plan.graph entries t ≡ Some (i, n) → i < length plan.graph.tasks) → (b : Bool) → has_tick plan.graph.hyper entry t ≡ b → i < length plan.graph.tasks
    go rest false not =
        rest (sym (ap (λ (b : Bool). cond b (Some (entry.task.0, entry.job + (t - entry.at) / plan.graph.hyper * classes plan.graph entry.task.0)) (goes_to plan.graph entries t)) not) ∙ is)
    go rest true has =
        (let e : Some (entry.task.0, entry.job + (t - entry.at) / plan.graph.hyper * classes plan.graph entry.task.0) ≡ Some (i, n) =
        sym (ap (λ (b : Bool). cond b (Some (entry.task.0, entry.job + (t - entry.at) / plan.graph.hyper * classes plan.graph entry.task.0)) (goes_to plan.graph entries t)) has) ∙ is in
        subst (λ (v : ℕ). v < length plan.graph.tasks) (ap task_of e) (are 0 entry refl))

module _ (plan : PlanView) (is : IsPlan plan) (entries : List Entry) (good : IsGood plan entries)
    (lengths : (entry : Entry) → IsPiece plan entry → entry.units ≤ plan.graph.hyper) (h : Horizon) where
  abbrev the_run : ℕ → Option (ℕ × ℕ)
  the_run = table_run plan entries h

  all_short : AreAllShort plan is entries
  all_short k entry at = (let piece = good.pieces k entry at in record { class = piece.class; short = lengths entry piece })

  -- the units of a job up to a tick are those of its class in its hyperperiod
  units_are : (t i n : ℕ) → IsJob (constants_of plan h) i n →
      units_before (table_run plan entries h) t i n ≡ units_to plan.graph.hyper entries i (n % classes plan.graph i) (n / classes plan.graph i) t
  units_are zero i n job = sym (units_none plan.graph.hyper entries i (n % classes plan.graph i) (n / classes plan.graph i))
  units_are (suc t) i n job =
      let rest = units_are t i n job in
      let step = units_step plan.graph.hyper entries i (n % classes plan.graph i) (n / classes plan.graph i) t in
      let here = one_hit plan is entries all_short good.apart t i n job.task in
      let pass = unit_passes (constants_of plan h) (goes_to plan.graph entries t) i n job.job in
      omega (arith, rest, step, here, pass)

  -- no more than its WCET
  units_few : (t i n : ℕ) → IsJob (constants_of plan h) i n → units_before (table_run plan entries h) t i n ≤ (task_at plan.graph i).wcet
  units_few t i n job =
      let e = units_are t i n job in
      let most = units_most plan.graph.hyper entries i (n % classes plan.graph i) (n / classes plan.graph i) t in
      let whole = good.whole i (n % classes plan.graph i) job.task (below plan is i n job.task) in
      omega (arith, e, most, whole)

  release_is : (i n : ℕ) → i < length plan.graph.tasks → release_at plan i n ≡ release_at plan i (n % classes plan.graph i) + n / classes plan.graph i * plan.graph.hyper
  release_is i n inside =
      let r = shifted plan is (encoded_release plan.graph plan.windows) (least_repeat plan.graph is.graph (encoded_release plan.graph plan.windows) is.dates.releases) i
      (n % classes plan.graph i) (n / classes plan.graph i) inside in
      let s = ap (λ (x : ℕ). encoded_release plan.graph plan.windows i (pos x)) (split plan is i n) in
      omega (arith, ints, r, s)

  deadline_is : (i n : ℕ) → i < length plan.graph.tasks → deadline_at plan i n ≡ deadline_at plan i (n % classes plan.graph i) + n / classes plan.graph i * plan.graph.hyper
  deadline_is i n inside =
      let d = shifted plan is (encoded_deadline plan.graph plan.windows) (greatest_repeat plan.graph is.graph (encoded_deadline plan.graph plan.windows) is.dates.deadlines) i
      (n % classes plan.graph i) (n / classes plan.graph i) inside in
      let s = ap (λ (x : ℕ). encoded_deadline plan.graph plan.windows i (pos x)) (split plan is i n) in
      omega (arith, ints, d, s)

  -- all of it by its deadline
  pub table_meets : MeetsAllWindows (constants_of plan h) (wcets_of plan) (table_run plan entries h)
  table_meets i n job =
      let e = units_are (deadline_at plan i n) i n job in
      let whole = good.whole i (n % classes plan.graph i) job.task (below plan is i n job.task) in
      let all = units_all plan.graph.hyper entries i (n % classes plan.graph i) (n / classes plan.graph i) (deadline_at plan i n) (λ k entry at task class.
      (let piece = good.pieces k entry at in
      let to : entry.at + entry.units ≤ deadline_at plan i (n % classes plan.graph i) =
      subst (λ (x : ℕ). entry.at + entry.units ≤ deadline_at plan i x) class (subst (λ (x : ℕ). entry.at + entry.units ≤ deadline_at plan x entry.job) task piece.to) in
      let d = deadline_is i n job.task in omega (arith, to, d))) in
      omega (arith, e, whole, all)

  -- none before its release
  none_before : (t i n : ℕ) → IsJob (constants_of plan h) i n → t ≤ release_at plan i n → units_before (table_run plan entries h) t i n ≡ 0
  none_before t i n job early =
      let e = units_are t i n job in
      let none = units_early plan.graph.hyper entries i (n % classes plan.graph i) (n / classes plan.graph i) t (λ k entry at task class.
      (let piece = good.pieces k entry at in
      let from : release_at plan i (n % classes plan.graph i) ≤ entry.at =
      subst (λ (x : ℕ). release_at plan i x ≤ entry.at) class (subst (λ (x : ℕ). release_at plan x entry.job ≤ entry.at) task piece.from) in
      let r = release_is i n job.task in omega (arith, from, r, early))) in
      omega (arith, e, none)

  runs_job : (t i n : ℕ) → the_run t ≡ Some (i, n) → IsJob (constants_of plan h) i n
  runs_job t i n goes =
      let p = passes (constants_of plan h) (goes_to plan.graph entries t) i n goes in
      record { task = is_task plan entries t i n (λ k entry at. (good.pieces k entry at).task) p.1; job = p.0 }

  one_more_unit : (t i n : ℕ) → the_run t ≡ Some (i, n) → units_before (table_run plan entries h) (suc t) i n ≡ units_before (table_run plan entries h) t i n + 1
  one_more_unit t i n goes = (let e : unit_of (table_run plan entries h t) i n ≡ 1 = ap (λ (o : Option (ℕ × ℕ)). unit_of o i n) goes ∙ unit_here i n in omega (arith, e))

  pub table_is_timed : ((i n : ℕ) → IsJob (constants_of plan h) i n → deadline_at plan i n ≤ h.end) → IsTimedRun (constants_of plan h) (wcets_of plan) (table_run plan entries h)
  table_is_timed ends = record {
    ready = λ t i n goes.
        (let job = runs_job t i n goes in
        let one = one_more_unit t i n goes in
        let few = units_few (suc t) i n job in
        record {
          job = job;
          released = elim (cases_lt t (release_at plan i n)) [
            | inr late ↦ late
            | inl early ↦ absurd (let none = none_before (suc t) i n job early in omega (arith, none, one))
          ];
          left = omega (arith, one, few);
        });
    ends = λ t past. elim (some_or_none (the_run t)) [
      | inl none ↦ none
      | inr some ↦ absurd
          (let job = runs_job t some.0 some.1 some.2 in
          let one = one_more_unit t some.0 some.1 some.2 in
          let few = units_few (suc t) some.0 some.1 job in
          let met = table_meets some.0 some.1 job in
          let end = ends some.0 some.1 job in
          let up = units_up (table_run plan entries h) some.0 some.1 (deadline_at plan some.0 some.1) t (omega (arith, end, past)) in
          omega (arith, one, few, met, up))
    ];
  }

  -- the sum of all deadlines is an end
  all_end : (i n : ℕ) → IsJob (constants_of plan h) i n →
      deadline_at plan i n ≤ sum_below (λ i. sum_below (λ n. deadline_at plan i n) (job_count (task_at plan.graph i) h.until)) (length plan.graph.tasks)
  all_end i n job =
      let a = part_of_sum (λ n. deadline_at plan i n) (job_count (task_at plan.graph i) h.until) n job.job in
      let b = part_of_sum (λ i. sum_below (λ n. deadline_at plan i n) (job_count (task_at plan.graph i) h.until)) (length plan.graph.tasks) i job.task in
      omega (arith, a, b)

-- no interval of a horizon is overloaded
pub table_serves : (plan : PlanView) → IsPlan plan → (entries : List Entry) → IsGood plan entries →
    ((entry : Entry) → IsPiece plan entry → entry.units ≤ plan.graph.hyper) →
    ((c : RunConstants) (cost : ℕ → ℕ → ℕ) (run : ℕ → Option (ℕ × ℕ)) (a b : ℕ) → IsOverloaded c cost a b → IsTimedRun c cost run → MeetsAllWindows c cost run → ⊥) →
    ServesForEver plan
table_serves plan is entries good lengths law h a b over =
    let long : Horizon = record { until = h.until; end = sum_below (λ i. sum_below (λ n. deadline_at plan i n) (job_count (task_at plan.graph i) h.until)) (length plan.graph.tasks); jobs = 0; events = 0 } in
    law (constants_of plan long) (wcets_of plan) (table_run plan entries long) a b over
    (table_is_timed plan is entries good lengths long (λ i n job. all_end plan is entries good lengths h i n (record { task = job.task; job = job.job })))
    (table_meets plan is entries good lengths long)
