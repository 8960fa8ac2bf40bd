-- Runs in which each job has all that it costs.
use Rattle.prl_base.proofs.Standard.{◌≡◌, ◌<◌, ◌≤◌, ℕ, List, [], length, get_or, replicate, Option, sym, ap, ◌∙◌, arith, get_or-replicate, length-replicate}
use Rattle.prl_plan.specs.Vocabulary.{IsJob, RunConstants}
use Rattle.prl_edf.specs.Vocabulary.{Outcome, ComesTo, run_of, IsReady, IsEdfRun, IsPlainRun, IsFirstMiss, MeetsAllWindows, AreFullLists}
use Rattle.prl_edf.specs.declared.runs.Outcome.TheVariants as outcomes

module _ (c : RunConstants) (cost : ℕ → ℕ → ℕ) (lists : List (List ℕ)) where
  pub full_lists : (by_task : ℕ → ℕ) → length lists ≡ c.tasks → ((i n : ℕ) → cost i n ≡ by_task i) → ((i : ℕ) → i < c.tasks → 1 ≤ by_task i) →
      ((i : ℕ) → i < c.tasks → get_or lists i [] ≡ replicate (c.jobs i) (by_task i)) → AreFullLists c cost lists
  full_lists by_task long is some each =
      let at = (λ (i n : ℕ) (job : IsJob c i n). ap (λ (xs : List ℕ). get_or xs n 0) (each i job.task) ∙ get_or-replicate (c.jobs i) n (by_task i) 0 job.job ∙ sym (is i n)) in
      record {
        fit = record {
          tasks = long;
          jobs = λ i task. ap length (each i task) ∙ length-replicate (c.jobs i) (by_task i);
          units = λ i n job. (let e = at i n job in let s = some i job.task in let d = is i n in (omega (arith, e, s, d), omega (arith, e)));
        };
        full = at;
      }

module _ (c : RunConstants) (u v : ℕ → ℕ → ℕ) (same : (i n : ℕ) → IsJob c i n → u i n ≡ v i n) (run : ℕ → Option (ℕ × ℕ)) where
  ready_as : (t i n : ℕ) → IsReady c u run t i n → IsReady c v run t i n
  ready_as t i n ready = record { job = ready.job; released = ready.released; left = (let e = same i n ready.job in let h = ready.left in omega (arith, e, h)) }

  as_ready : (t i n : ℕ) → IsReady c v run t i n → IsReady c u run t i n
  as_ready t i n ready = record { job = ready.job; released = ready.released; left = (let e = same i n ready.job in let h = ready.left in omega (arith, e, h)) }

  pub edf_as : IsEdfRun c u run → IsEdfRun c v run
  edf_as edf = record {
    timed = record { ready = λ t i n is. ready_as t i n (edf.timed.ready t i n is); ends = edf.timed.ends };
    earliest = λ t i n j k is ready. edf.earliest t i n j k is (as_ready t j k ready);
    busy = λ t j k early is ready. edf.busy t j k early is (as_ready t j k ready);
  }

  pub plain_as : IsPlainRun c u run → IsPlainRun c v run
  plain_as plain = record { edf = edf_as plain.edf; lowest = λ t i n j k is ready tie. plain.lowest t i n j k is (as_ready t j k ready) tie }

  pub met_as : MeetsAllWindows c u run → MeetsAllWindows c v run
  met_as met i n job = (let e = same i n job in let h = met i n job in omega (arith, e, h))

  pub miss_as : (i n : ℕ) → IsFirstMiss c u run i n → IsFirstMiss c v run i n
  miss_as i n miss = record {
    job = miss.job;
    misses = (let e = same i n miss.job in let h = miss.misses in omega (arith, e, h));
    earliest = λ j k job misses. miss.earliest j k job (let e = same j k job in omega (arith, e, misses));
    lowest = λ j k job misses tie. miss.lowest j k job (let e = same j k job in omega (arith, e, misses)) tie;
  }

module _ (c : RunConstants) (u v : ℕ → ℕ → ℕ) (same : (i n : ℕ) → IsJob c i n → u i n ≡ v i n) where
  pub comes_as : (outcome : Outcome) → ComesTo c u outcome → ComesTo c v outcome
  comes_as (outcomes.Met timed) feasible = record {
    longest = feasible.longest;
    plain = plain_as c u v same (run_of timed.pieces) feasible.plain;
    met = met_as c u v same (run_of timed.pieces) feasible.met;
  }
  comes_as (outcomes.Missed task job) missed = λ run plain.
      miss_as c u v same run task.0 job (missed run (plain_as c v u (λ i n job. sym (same i n job)) run plain))
