-- The endless run of a plan that is served for ever: there is one, it meets all windows, and the run of each horizon is its beginning.
use Rattle.prl_base.proofs.Standard.{◌≡◌, ◌+◌, ◌*◌, ◌<◌, ◌≤◌, ℕ, zero, suc, List, [], length, Option, Some, None, inl, inr, refl, sym, ◌∙◌, ap, subst, arith, cases_lt}
use Rattle.prl_plan.specs.declared.events.Action.{Action}
use Rattle.prl_plan.specs.declared.horizons.Horizon.{Horizon}
use Rattle.prl_plan.specs.Vocabulary.{HasPlanFacts, IsJob, RunConstants, task_at, job_count, constants_of, sum_below, PlanView, IsPlan, release_at, deadline_at}
use Rattle.prl_plan.proofs.PartsOfSums.{part_of_sum}
use Rattle.prl_plan.proofs.PlanFacts.{apart_at}
use Rattle.prl_plan.proofs.RoundPeriods.{task_is}
use Rattle.prl_overlaps.specs.Demand.{wcets_of, IsOverloaded}
use Rattle.prl_edf.specs.Vocabulary.{AreUnits, IsEdfRun, IsPlainRun, IsReady, MeetsAllWindows, units_before}
use Rattle.prl_forever.specs.Forever.{ServesForEver}
use Rattle.prl_steady.specs.Endless.{IsEndlessRun, IsOpen}
use Rattle.prl_steady.proofs.Dates.{AreCounted, in_horizon, window}
use Rattle.prl_steady.proofs.Over.{IsOver, IsReadyOf, agree, level, never_more, one_more, units_same, up}

-- what the laws of one processor say
abbrev pub SomePlain : Type 0
SomePlain = (c : RunConstants) → HasPlanFacts c → (units : ℕ → ℕ → ℕ) → (run : ℕ → Option (ℕ × ℕ)) × IsPlainRun c units run

abbrev pub AreFeasible : Type 0
AreFeasible = (c : RunConstants) → HasPlanFacts c → (cost units : ℕ → ℕ → ℕ) (run : ℕ → Option (ℕ × ℕ)) → AreUnits c cost units →
    ((a b : ℕ) → IsOverloaded c cost a b → ⊥) → IsEdfRun c units run → MeetsAllWindows c units run

-- each job of each task
abbrev pub All : PlanView → ℕ → ℕ → Type 0
All plan i n = i < length plan.graph.tasks

pub endless_over : (plan : PlanView) (run : ℕ → Option (ℕ × ℕ)) → IsEndlessRun plan run → IsOver plan (All plan) run
endless_over plan run is = record {
  task = λ i n job. job;
  ready = λ t i n goes. (let its = is.ready t i n goes in record { job = its.task; released = its.released; left = its.left });
  earliest = λ t i n j k goes its. is.earliest t i n j k goes (record { task = its.job; released = its.released; left = its.left });
  lowest = λ t i n j k goes its. is.lowest t i n j k goes (record { task = its.job; released = its.released; left = its.left });
  busy = λ t j k none its. is.busy t j k none (record { task = its.job; released = its.released; left = its.left });
}

pub over_endless : (plan : PlanView) (run : ℕ → Option (ℕ × ℕ)) → IsOver plan (All plan) run → IsEndlessRun plan run
over_endless plan run is = record {
  ready = λ t i n goes. (let its = is.ready t i n goes in record { task = its.job; released = its.released; left = its.left });
  earliest = λ t i n j k goes its. is.earliest t i n j k goes (record { job = its.task; released = its.released; left = its.left });
  lowest = λ t i n j k goes its. is.lowest t i n j k goes (record { job = its.task; released = its.released; left = its.left });
  busy = λ t j k none its. is.busy t j k none (record { job = its.task; released = its.released; left = its.left });
}

-- the plain run of some constants that meets all windows is one over their jobs
pub plain_over : (plan : PlanView) (c : RunConstants) → c.tasks ≡ length plan.graph.tasks → c.release ≡ release_at plan → c.deadline ≡ deadline_at plan →
    ((i n : ℕ) → IsJob c i n → c.deadline i n ≤ c.end) → (run : ℕ → Option (ℕ × ℕ)) → IsPlainRun c (wcets_of plan) run → MeetsAllWindows c (wcets_of plan) run → IsOver plan (IsJob c) run
plain_over plan c tasks releases deadlines within run plain met = record {
  task = λ i n job. (let h = job.task in omega (arith, h, tasks));
  ready = λ t i n goes. (let its = plain.edf.timed.ready t i n goes in let r = its.released in let e = ap (λ (f : ℕ → ℕ → ℕ). f i n) releases in
      record { job = its.job; released = omega (arith, r, e); left = its.left });
  earliest = λ t i n j k goes its. (let e = plain.edf.earliest t i n j k goes (same t j k its) in
      let a = ap (λ (f : ℕ → ℕ → ℕ). f i n) deadlines in let b = ap (λ (f : ℕ → ℕ → ℕ). f j k) deadlines in omega (arith, e, a, b));
  lowest = λ t i n j k goes its one. plain.lowest t i n j k goes (same t j k its)
      (let a = ap (λ (f : ℕ → ℕ → ℕ). f i n) deadlines in let b = ap (λ (f : ℕ → ℕ → ℕ). f j k) deadlines in omega (arith, one, a, b));
  busy = λ t j k none its. elim (cases_lt t c.end) [
    | inl before ↦ plain.edf.busy t j k before none (same t j k its)
    | inr past ↦
        (let all = met j k its.job in
        let left = its.left in
        let end = within j k its.job in
        let more = up run (c.deadline j k) t j k (omega (arith, end, past)) in omega (arith, all, left, more))
  ];
}
  where
    same : (t j k : ℕ) → IsReadyOf plan (IsJob c) run t j k → IsReady c (wcets_of plan) run t j k
    same t j k its = (let r = its.released in let e = ap (λ (f : ℕ → ℕ → ℕ). f j k) releases in record { job = its.job; released = omega (arith, r, e); left = its.left })

module _ (plan : PlanView) (is : IsPlan plan) where
  -- a tick by which all jobs before another one are due
  abbrev end_by : ℕ → ℕ
  end_by until = sum_below (λ i. sum_below (deadline_at plan i) (job_count (task_at plan.graph i) until)) (length plan.graph.tasks)

  -- the dates of the jobs before a tick, without what they do
  abbrev dates_to : ℕ → RunConstants
  dates_to until = record {
    tasks = length plan.graph.tasks;
    slots = 0;
    jobs = λ i. job_count (task_at plan.graph i) until;
    release = release_at plan;
    deadline = deadline_at plan;
    actions = λ i n. [];
    processor = λ i. 0;
    end = end_by until;
  }

  due_within : (until i n : ℕ) → IsJob (dates_to until) i n → deadline_at plan i n ≤ end_by until
  due_within until i n job =
      let a = part_of_sum (deadline_at plan i) (job_count (task_at plan.graph i) until) n job.job in
      let b = part_of_sum (λ i. sum_below (deadline_at plan i) (job_count (task_at plan.graph i) until)) (length plan.graph.tasks) i job.task in
      omega (arith, a, b)

  dates_have_facts : (until : ℕ) → HasPlanFacts (dates_to until)
  dates_have_facts until = record {
    few = (let few = is.graph.few_tasks in omega (arith, few));
    positive = λ i n job. (let w = window plan is i n job.task in omega (arith, w));
    within = λ i n job. due_within until i n job;
    window = λ i n job. window plan is i n job.task;
    apart = λ i m n job before. apart_at plan is i m n job.task before;
    short = λ i n job. omega arith;
    last = λ i n place later job ends before. refl;
    read_cell = λ i n place m cell reads. absurd (let e = reads.action.2 in cc);
    write_cell = λ i n place m cell writes. absurd (let e = writes.action.1 in cc);
    own = λ i n place m cell writes. absurd (let e = writes.action.1 in cc);
    writer = λ i n place m j k other l cell writes _. absurd (let e = writes.action.1 in cc);
    once = λ i n place m other l cell writes _. absurd (let e = writes.action.1 in cc);
    edge = λ j k place m i n written l cell reads writes. absurd (let e = reads.action.2 in cc);
    paired = λ i n place job high. absurd high;
    provided = λ j k place m cell reads. absurd (let e = reads.action.2 in cc);
    across = λ j k place m i n written cell reads _. absurd (let e = reads.action.2 in cc);
    over = λ j k place m i n written l cell reads _ _. absurd (let e = reads.action.2 in cc);
  }

  full_units : (until : ℕ) → AreUnits (dates_to until) (wcets_of plan) (wcets_of plan)
  full_units until i n job = (let w = (task_is plan.graph is.graph i job.task).wcet.0 in (omega (arith, w), omega arith))

  module _ (plain : SomePlain) (feasible : AreFeasible) (serves : ServesForEver plan) where
    abbrev run_to : ℕ → ℕ → Option (ℕ × ℕ)
    run_to until = (plain (dates_to until) (dates_have_facts until) (wcets_of plan)).0

    met_to : (until : ℕ) → MeetsAllWindows (dates_to until) (wcets_of plan) (run_to until)
    met_to until = feasible (dates_to until) (dates_have_facts until) (wcets_of plan) (wcets_of plan) (run_to until) (full_units until)
        (λ a b over. serves (record { until = until; end = 0; jobs = 0; events = 0 }) a b over)
        (plain (dates_to until) (dates_have_facts until) (wcets_of plan)).1.edf

    over_to : (until : ℕ) → IsOver plan (IsJob (dates_to until)) (run_to until)
    over_to until = plain_over plan (dates_to until) refl refl refl (due_within until) (run_to until) (plain (dates_to until) (dates_have_facts until) (wcets_of plan)).1 (met_to until)

    module _ (counted : AreCounted plan) where
      job_to : (until i n : ℕ) → i < length plan.graph.tasks → release_at plan i n < until → IsJob (dates_to until) i n
      job_to until i n inside early = record { task = inside; job = in_horizon plan is counted until i n inside early }

      -- each job of the endless run has its WCET by its deadline
      pub all_met : (run : ℕ → Option (ℕ × ℕ)) → IsOver plan (All plan) run → (i n : ℕ) → i < length plan.graph.tasks →
          units_before run (deadline_at plan i n) i n ≡ (task_at plan.graph i).wcet
      all_met run over i n inside =
          let w = window plan is i n inside in
          let job = job_to (deadline_at plan i n) i n inside w in
          let same = level plan is (IsJob (dates_to (deadline_at plan i n))) (All plan) (run_to (deadline_at plan i n)) run (over_to (deadline_at plan i n)) over (deadline_at plan i n)
          (λ j m its _. its.task) (λ j m its early. job_to (deadline_at plan i n) j m its early) (deadline_at plan i n) (omega arith) i n job inside in
          let all = met_to (deadline_at plan i n) i n job in
          let most = never_more plan is (All plan) run over (deadline_at plan i n) i n in
          omega (arith, same, all, most)

      -- the ticks of the runs up to ever later ticks
      abbrev endless : ℕ → Option (ℕ × ℕ)
      endless t = run_to (suc t) t

      alike : (t s : ℕ) → s < suc t → endless s ≡ run_to (suc t) s
      alike t s below = agree plan is (IsJob (dates_to (suc s))) (IsJob (dates_to (suc t))) (run_to (suc s)) (run_to (suc t)) (over_to (suc s)) (over_to (suc t)) (suc s)
          (λ j m its early. job_to (suc t) j m its.task (omega (arith, early, below))) (λ j m its early. job_to (suc s) j m its.task early) s (omega arith)

      units_alike : (t i n : ℕ) → units_before endless t i n ≡ units_before (run_to (suc t)) t i n
      units_alike t i n = units_same endless (run_to (suc t)) t i n (λ s below. alike t s (omega (arith, below)))

      back_to : (t i n : ℕ) → IsReadyOf plan (All plan) endless t i n → IsReadyOf plan (IsJob (dates_to (suc t))) (run_to (suc t)) t i n
      back_to t i n its = record {
        job = job_to (suc t) i n its.job (let r = its.released in omega (arith, r));
        released = its.released;
        left = (let l = its.left in let u = units_alike t i n in omega (arith, l, u));
      }

      -- are one run
      endless_is : IsOver plan (All plan) endless
      endless_is = record {
        task = λ i n job. job;
        ready = λ t i n goes. (let its = (over_to (suc t)).ready t i n goes in let l = its.left in let u = units_alike t i n in
            record { job = its.job.task; released = its.released; left = omega (arith, l, u) });
        earliest = λ t i n j k goes its. (over_to (suc t)).earliest t i n j k goes (back_to t j k its);
        lowest = λ t i n j k goes its. (over_to (suc t)).lowest t i n j k goes (back_to t j k its);
        busy = λ t j k none its. (over_to (suc t)).busy t j k none (back_to t j k its);
      }

      pub there_is : (run : ℕ → Option (ℕ × ℕ)) × IsEndlessRun plan run
      there_is = (endless, over_endless plan endless endless_is)

-- there is no other
pub only_one : (plan : PlanView) → IsPlan plan → (run other : ℕ → Option (ℕ × ℕ)) → IsEndlessRun plan run → IsEndlessRun plan other → (t : ℕ) → run t ≡ other t
only_one plan is run other one two t =
    agree plan is (All plan) (All plan) run other (endless_over plan run one) (endless_over plan other two) (suc t) (λ i n job _. job) (λ i n job _. job) t (omega arith)

-- the plain run of a horizon is its beginning
pub begins : (plan : PlanView) → IsPlan plan → AreFeasible → ServesForEver plan → AreCounted plan → (run : ℕ → Option (ℕ × ℕ)) → IsEndlessRun plan run →
    (h : Horizon) → HasPlanFacts (constants_of plan h) → (plain : ℕ → Option (ℕ × ℕ)) → IsPlainRun (constants_of plan h) (wcets_of plan) plain →
    (t : ℕ) → t < h.until → plain t ≡ run t
begins plan is feasible serves counted run endless h facts plain is_plain t early =
    let met = feasible (constants_of plan h) facts (wcets_of plan) (wcets_of plan) plain
    (λ i n job. (let w = (task_is plan.graph is.graph i job.task).wcet.0 in (omega (arith, w), omega arith))) (serves h) is_plain.edf in
    agree plan is (IsJob (constants_of plan h)) (All plan) plain run
    (plain_over plan (constants_of plan h) refl refl refl (λ i n job. facts.within i n job) plain is_plain met) (endless_over plan run endless) h.until
    (λ i n job _. job.task) (λ i n job before. record { task = job; job = in_horizon plan is counted h.until i n job before }) t early
