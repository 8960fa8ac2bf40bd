-- A feasible run of a plan is a run that tables are cut from.
use Rattle.prl_base.proofs.Standard.{◌≡◌, ◌≢◌, ◌==◌, ◌+◌, ◌<◌, ◌≤◌, ◌&&◌, ℕ, zero, suc, Bool, true, false, cond, List, [], ◌∷◌, Option, Some, None, length, inl, inr, refl, sym, ◌∙◌, ap, arith, ◌↔◌}
use Rattle.prl_base.proofs.Standard.{slice_get, cases_eq, nat_tests}
use Rattle.prl_plan.specs.Vocabulary.{IsJob, constants_of, task_at, job_count, IsHorizonJob, PlanView, IsPlan, deadline_at}
use Rattle.prl_plan.specs.declared.graphs.Task.{Task}
use Rattle.prl_plan.specs.declared.horizons.Horizon.{Horizon}
use Rattle.prl_plan.proofs.RoundPeriods.{task_is}
use Rattle.prl_edf.specs.Vocabulary.{unit_of, units_before, IsEdfRun, MeetsAllWindows, wcets_of}
use Rattle.prl_table.specs.Made.{goes, greatest_start, is_job, later, units_in, IsTimed, IsEdf, IsSteady}
use Rattle.prl_tables.specs.Tables.{classes}

pub is_that : (o : Option (ℕ × ℕ)) (i m : ℕ) → is_job o i m ≡ true → o ≡ Some (i, m)
is_that None i m e = cc
is_that (Some job) i m e = ap Some (pair job (grind (arith, nat_tests)) (grind (arith, nat_tests)))
  where
    pair : (j : ℕ × ℕ) → j.0 ≡ i → j.1 ≡ m → j ≡ (i, m)
    pair j a b = ap (λ (x : ℕ). (x, j.1)) a ∙ ap (λ (x : ℕ). (i, x)) b

one_unit : (o : Option (ℕ × ℕ)) (i m : ℕ) → unit_of o i m ≡ cond (is_job o i m) 1 0
one_unit None i m = refl
one_unit (Some job) i m = refl

-- the same counts
units_are : (run : ℕ → Option (ℕ × ℕ)) (t i m : ℕ) → units_in (goes run) 0 t i m ≡ units_before run t i m
units_are run zero i m = refl
units_are run (suc t) i m =
    (let rest = units_are run t i m in
    let here : 0 + t ≡ t = omega arith in
    let a : units_in (goes run) 0 (suc t) i m ≡ units_in (goes run) 0 t i m + cond (is_job (run (0 + t)) i m) 1 0 = refl in
    let b = ap {B = ℕ} (λ (x : ℕ). cond (is_job (run x) i m) 1 0) here in
    let d = one_unit (run t) i m in
    let e : units_before run (suc t) i m ≡ units_before run t i m + unit_of (run t) i m = refl in
    omega (arith, rest, a, b, d, e))

module _ (plan : PlanView) (is : IsPlan plan) (h : Horizon) (run : ℕ → Option (ℕ × ℕ)) (edf : IsEdfRun (constants_of plan h) (wcets_of plan) run)
    (met : MeetsAllWindows (constants_of plan h) (wcets_of plan) run)
    (counted : (i n : ℕ) → i < length plan.graph.tasks → 0 < (task_at plan.graph i).clock.period → IsHorizonJob plan.graph h.until i n ↔ (n < job_count (task_at plan.graph i) h.until)) where
  period : (i : ℕ) → i < length plan.graph.tasks → 1 ≤ (task_at plan.graph i).clock.period
  period i inside = (task_is plan.graph is.graph i inside).period.0

  -- no job has more units than its WCET
  few_units : (i m t : ℕ) → units_before run t i m ≤ (task_at plan.graph i).wcet
  few_units i m zero = omega arith
  few_units i m (suc t) = go (is_job (run t) i m) refl (few_units i m t)
    where
      go : (b : Bool) → is_job (run t) i m ≡ b → units_before run t i m ≤ (task_at plan.graph i).wcet → units_before run (suc t) i m ≤ (task_at plan.graph i).wcet
      go true at rest =
          (let left = (edf.timed.ready t i m (is_that (run t) i m at)).left in
          let one = one_unit (run t) i m in
          let c = ap {B = ℕ} (λ (b : Bool). cond b 1 0) at in
          let e : units_before run (suc t) i m ≡ units_before run t i m + unit_of (run t) i m = refl in
          omega (arith, left, one, c, e))
      go false at rest =
          (let one = one_unit (run t) i m in
          let c = ap {B = ℕ} (λ (b : Bool). cond b 1 0) at in
          let e : units_before run (suc t) i m ≡ units_before run t i m + unit_of (run t) i m = refl in
          omega (arith, rest, one, c, e))

  job_of : (i m : ℕ) → IsHorizonJob plan.graph h.until i m → IsJob (constants_of plan h) i m
  job_of i m its = record { task = its.task; job = (counted i m its.task (period i its.task)).0 its }

  horizon_of : (i m : ℕ) → IsJob (constants_of plan h) i m → IsHorizonJob plan.graph h.until i m
  horizon_of i m its = (counted i m its.task (period i its.task)).1 its.job

  pub timed : IsTimed plan h.until (goes run)
  timed = record {
    one = λ t i m j k a b.
        (let e : (i, m) ≡ (j, k) = (let s : Some (i, m) ≡ Some (j, k) = sym (is_that (run t) i m a) ∙ is_that (run t) j k b in cc s) in
        (ap (λ (p : ℕ × ℕ). p.0) e, ap (λ (p : ℕ × ℕ). p.1) e));
    job = λ t i m a. horizon_of i m (edf.timed.ready t i m (is_that (run t) i m a)).job;
    released = λ t i m a. (edf.timed.ready t i m (is_that (run t) i m a)).released;
    most = λ i m t _. (let u = units_are run t i m in let f = few_units i m t in omega (arith, u, f));
    all = λ i m its.
        (let u = units_are run (deadline_at plan i m) i m in
        let f = few_units i m (deadline_at plan i m) in
        let w = met i m (job_of i m its) in omega (arith, u, f, w));
  }

  pub earliest : IsEdf plan h.until (goes run)
  earliest t j k i n a its released left =
      edf.earliest t j k i n (is_that (run t) j k a)
      (record { job = job_of i n its; released = released; left = (let u = units_are run t i n in omega (arith, u, left)) })

moved_job : (plan : PlanView) (o : Option (ℕ × ℕ)) (i m : ℕ) → is_job o i m ≡ is_job (later plan o) i (m + classes plan.graph i)
moved_job plan None i m = refl
moved_job plan (Some job) i m =
    elim (cases_eq job.0 i) [
      | inl same ↦
          (let s = ap (λ (x : ℕ). classes plan.graph x) same in
          moved job.0 job.1 i m (classes plan.graph job.0) (classes plan.graph i) s)
      | inr other ↦ other_task job.0 job.1 i m (job.1 + classes plan.graph job.0) (m + classes plan.graph i) other
    ]
  where
    moved : (a b i m x y : ℕ) → x ≡ y → ((a == i) && (b == m)) ≡ ((a == i) && (b + x == m + y))
    moved a b i m x y same = ap (λ (t : Bool). (a == i) && t) (tests b m x y same)
      where
        tests : (b m x y : ℕ) → x ≡ y → (b == m) ≡ (b + x == m + y)
        tests b m x y same = grind (arith, nat_tests, same)

    other_task : (a b i m x y : ℕ) → a ≢ i → ((a == i) && (b == m)) ≡ ((a == i) && (x == y))
    other_task a b i m x y other = grind (arith, nat_tests, other)

pub steady : (plan : PlanView) (run : ℕ → Option (ℕ × ℕ)) (start : ℕ) → ((t : ℕ) → start ≤ t → t < start + plan.graph.hyper → later plan (run t) ≡ run (t + plan.graph.hyper)) →
    IsSteady plan (goes run) start
steady plan run start same t i m low high inside = moved_job plan (run t) i m ∙ ap (λ (o : Option (ℕ × ℕ)). is_job o i (m + classes plan.graph i)) (same t low high)

pub start_below : (tasks : List Task) (i : ℕ) (task : Task) → slice_get tasks i ≡ Some task → task.clock.start ≤ greatest_start tasks
start_below [] i task at = cc
start_below (first ∷ tasks) zero task at = (let same : first ≡ task = (let s : Some first ≡ Some task = at in cc s) in let e = ap (λ (t : Task). t.clock.start) same in omega (arith, e))
start_below (first ∷ tasks) (suc i) task at = (let rest = start_below tasks i task at in omega (arith, rest))
