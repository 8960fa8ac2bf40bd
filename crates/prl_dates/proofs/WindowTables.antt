-- What tables of a hyperperiod tell over all jobs: they rise along each task, and lists of windows made from them tell the same.
use Rattle.prl_base.proofs.Standard.{◌≡◌, ◌+◌, ◌*◌, ◌/◌, ◌<◌, ◌≤◌, ℕ, zero, suc, List, [], length, get_or, refl, sym, ◌∙◌, ap, subst, arith, ℤ, pos, negsuc, ◌+ℤ◌, ◌-ℤ◌, ◌≤ℤ◌, slice_index}
use Rattle.prl_base.proofs.Standard.{slice_index_or, mod-add-div', mul-div_cancel, ints}
use Rattle.prl_plan.specs.Vocabulary.{Family, RepeatsByHyper, place_in, no_window, window_at, IsWellFormed, task_at, release_of}
use Rattle.prl_plan.specs.declared.graphs.TaskGraph.{TaskGraph}
use Rattle.prl_plan.specs.declared.tables.Window.{Window}
use Rattle.prl_plan.proofs.DatePeriods.{families_agree}
use Rattle.prl_plan.proofs.Periods.{everywhere, plus_mul}
use Rattle.prl_plan.proofs.RoundPeriods.{task_is}
use Rattle.prl_dates.specs.Vocabulary.{jobs_of, jobs_before, index_of, dates_of, window_of, AreWindowsOf, AreWindows}
use Rattle.prl_dates.proofs.Indices.{place_again, place_below, place_self, jobs_are, some_jobs, index_again, release_again}
use Rattle.prl_dates.proofs.Settles.{date_here, release_rises}

module _ (graph : TaskGraph) (good : IsWellFormed graph) where
  next_release : (i : ℕ) (m : ℤ) → release_of (task_at graph i) (m +ℤ pos 1) ≡ release_of (task_at graph i) m +ℤ pos (task_at graph i).clock.period
  next_release i m =
      omega (arith, ints, plus_mul m 1 (task_at graph i).clock.period)

  -- where dates are within the periods, a job's is not after that of a later job of its task
  pub table_rises : (table : List ℕ) → ((i p : ℕ) → i < length graph.tasks → p < jobs_of graph i → slice_index table (jobs_before graph i + p) ≤ (task_at graph i).clock.period) →
      (i : ℕ) (a b : ℤ) → i < length graph.tasks → a ≤ℤ b → dates_of graph table i a ≤ℤ dates_of graph table i b
  table_rises table small i a b inside low = go (b -ℤ a) refl
    where
      go : (d : ℤ) → b -ℤ a ≡ d → dates_of graph table i a ≤ℤ dates_of graph table i b
      go (pos zero) is =
          (let e : a ≡ b = omega (arith, ints, is) in
          subst (λ (z : ℤ). dates_of graph table i a ≤ℤ dates_of graph table i z) e (omega (arith, ints)))
      go (pos (suc n)) is =
          (let r = release_rises graph i (a +ℤ pos 1) b (omega (arith, ints, is)) in
          omega (arith, ints, small i (place_in a (jobs_of graph i)) inside (place_below (jobs_of graph i) (some_jobs graph good i inside) a), r, next_release i a))
      go (negsuc n) is = absurd (omega (arith, ints, is, low))

  -- a table that has the dates of a family that repeats, for the jobs of a hyperperiod, has them for all
  pub table_tells : (table : List ℕ) (date : Family) → RepeatsByHyper graph date → (i : ℕ) → i < length graph.tasks →
      ((n : ℕ) → n < jobs_of graph i → release_of (task_at graph i) (pos n) +ℤ pos (slice_index table (jobs_before graph i + n)) ≡ date i (pos n)) →
      (m : ℤ) → dates_of graph table i m ≡ date i m
  table_tells table date repeats i inside base =
      families_agree graph good (dates_of graph table) date (record {
        again = λ j jobs inside' times m.
            (subst (λ (k : ℕ). dates_of graph table j (m +ℤ pos k) ≡ dates_of graph table j m +ℤ pos graph.hyper) (jobs_same j jobs inside' times)
            omega (arith, ints, ap (λ (q : ℕ). slice_index table q) (index_again graph good j inside' m), release_again graph good j inside' m));
      }) repeats i (jobs_of graph i) inside (jobs_are graph good i inside)
      (λ n below. date_here graph table i n below ∙ base n below)
    where
      jobs_same : (j jobs : ℕ) → j < length graph.tasks → graph.hyper ≡ jobs * (task_at graph j).clock.period → jobs_of graph j ≡ jobs
      jobs_same j jobs inside' times =
          ap (λ (x : ℕ). x / (task_at graph j).clock.period) times ∙ mul-div_cancel jobs (task_is graph good j inside').period.0

module _ (graph : TaskGraph) (good : IsWellFormed graph) (bests tails : List ℕ) (windows : List (List Window))
    (lists : AreWindows graph bests tails (length graph.tasks) windows) where
  place_times : (len times : ℕ) → 1 ≤ len → (m : ℤ) → place_in (m +ℤ pos (times * len)) len ≡ place_in m len
  place_times len zero some m =
      ap (λ (z : ℤ). place_in z len) (let e : 0 * len ≡ 0 = omega arith in let f : m +ℤ pos (0 * len) ≡ m = omega (arith, ints, e) in f)
  place_times len (suc times) some m =
      ap (λ (z : ℤ). place_in z len)
      (let e : suc times * len ≡ times * len + len = omega arith in let f : m +ℤ pos (suc times * len) ≡ (m +ℤ pos (times * len)) +ℤ pos len = omega (arith, ints, e) in f)
      ∙ place_again len some (m +ℤ pos (times * len)) ∙ place_times len times some m

  pub window_is : (i : ℕ) → i < length graph.tasks → (m : ℤ) → window_at windows i m ≡ window_of graph i bests tails (index_of graph i m)
  window_is i inside =
      everywhere (λ (m : ℤ). window_at windows i m ≡ window_of graph i bests tails (index_of graph i m)) (jobs_of graph i) (some_jobs graph good i inside)
      (λ n below. of.each n below ∙ ap (λ (p : ℕ). window_of graph i bests tails (jobs_before graph i + p)) (sym (place_self (jobs_of graph i) n below)))
      (λ m h. list_again m ∙ h ∙ ap (λ (q : ℕ). window_of graph i bests tails q) (sym (index_again graph good i inside m)))
      (λ m h. sym (list_again m) ∙ h ∙ ap (λ (q : ℕ). window_of graph i bests tails q) (index_again graph good i inside m))
    where
      of : AreWindowsOf graph bests tails i (slice_index_or windows i [])
      of = lists.each i inside

      whole : jobs_of graph i ≡ jobs_of graph i / length (slice_index_or windows i []) * length (slice_index_or windows i [])
      whole = omega (arith, mod-add-div' (jobs_of graph i) (length (slice_index_or windows i [])), (lists.each i inside).divides)

      list_again : (m : ℤ) → window_at windows i (m +ℤ pos (jobs_of graph i)) ≡ window_at windows i m
      list_again m =
          ap (λ (k : ℕ). get_or (slice_index_or windows i []) k no_window)
          (ap (λ (n : ℕ). place_in (m +ℤ pos n) (length (slice_index_or windows i []))) whole
          ∙ place_times (length (slice_index_or windows i [])) (jobs_of graph i / length (slice_index_or windows i [])) (lists.each i inside).some m)
