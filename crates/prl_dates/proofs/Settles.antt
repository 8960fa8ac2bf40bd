-- The first bests, and what the last ones show.
use Rattle.prl_base.proofs.Standard.{◌≡◌, ◌+◌, ◌-◌, ◌*◌, ◌<◌, ◌≤◌, ◌^◌, ◌⊎◌, ℕ, List, [], ◌∷◌, length, get_or, inl, inr, refl, sym, ◌∙◌, ap, subst, arith, ℤ, pos, ◌+ℤ◌}
use Rattle.prl_base.proofs.Standard.{◌≤ℤ◌, ◌<ℤ◌, slice_index, *ℤ_comm, cases_lt, ints}
use Rattle.prl_base.specs.declared.numbers.TaskNo.{TaskNo}
use Rattle.prl_plan.specs.Vocabulary.{needs_of, EndsIn, IsBest, place_in, IsWellFormed, jobs_in_hyperperiod, Job, task_at, release_of, deadline_of}
use Rattle.prl_plan.specs.declared.graphs.Task.{Task}
use Rattle.prl_plan.specs.declared.graphs.TaskGraph.{TaskGraph}
use Rattle.prl_plan.proofs.ChainLaws.{one_best}
use Rattle.prl_plan.proofs.Floors.{mono}
use Rattle.prl_plan.proofs.RoundPeriods.{task_is}
use Rattle.prl_dates.specs.declared.bests.First.TheVariants as firsts
use Rattle.prl_dates.specs.declared.faults.DateFault.TheVariants as faults
use Rattle.prl_dates.specs.Vocabulary.{Lane, jobs_of, IsOfPeriod, IsLate, EndsLoop, NoneOfPeriod, IsSomehowLate, IsDateFault, AreBests, AreLanes, jobs_before, dates_of, AreRound}
use Rattle.prl_dates.specs.Vocabulary.{IsFirstTable, IsNowhereAbove, IsFirstAbove}
use Rattle.prl_dates.proofs.BestRounds.{next_bests}
use Rattle.prl_dates.proofs.Indices.{place_below, place_self, some_jobs, index_below}
use Rattle.prl_dates.proofs.LaneSteps.{date_small}
use Rattle.prl_dates.proofs.Readings.{task_read}
use Rattle.prl_dates.proofs.TableRounds.{round_of_tables}

-- releases rise along a task
pub release_rises : (graph : TaskGraph) (i : ℕ) (a b : ℤ) → a ≤ℤ b → release_of (task_at graph i) a ≤ℤ release_of (task_at graph i) b
release_rises graph i a b order =
    omega (arith, ints, mono (task_at graph i).clock.period a b order, *ℤ_comm a (pos (task_at graph i).clock.period), *ℤ_comm b (pos (task_at graph i).clock.period))

-- the date of a job of the first hyperperiod
pub date_here : (graph : TaskGraph) (table : List ℕ) (i p : ℕ) → p < jobs_of graph i →
    dates_of graph table i (pos p) ≡ release_of (task_at graph i) (pos p) +ℤ pos (slice_index table (jobs_before graph i + p))
date_here graph table i p below =
    ap (λ (x : ℕ). release_of (task_at graph i) (pos p) +ℤ pos (slice_index table (jobs_before graph i + x))) (place_self (jobs_of graph i) p below)

-- the parts of a job's dates are small
job_small : (graph : TaskGraph) (good : IsWellFormed graph) (i n : ℕ) → i < length graph.tasks → n < jobs_of graph i → (t : Task) → t ≡ task_at graph i →
    (t.clock.start + n * t.clock.period ≤ 2 ^ 32) × (t.due < 2 ^ 31)
job_small graph good i n inside below t is =
    subst (λ (x : Task). (x.clock.start + n * x.clock.period ≤ 2 ^ 32) × (x.due < 2 ^ 31)) (sym is)
    (let task = task_is graph good i inside in
    (omega (arith, task.start, date_small graph good i n inside below), omega (arith, task.period.1, task.due.1)))

-- a task that is read, and the parts of the dates of a job of it
pub record IsSmall (graph : TaskGraph) (i n : ℕ) (t : Task) : Type 0 where
  pub is : t ≡ task_at graph i
  pub release : t.clock.start + n * t.clock.period ≤ 2 ^ 32
  pub due : t.due < 2 ^ 31

pub read_small : (graph : TaskGraph) → IsWellFormed graph → (i n : ℕ) → i < length graph.tasks → n < jobs_of graph i → (tasks : List Task) → tasks ≡ graph.tasks → (t : Task) → t ≡ get_or tasks i t →
    IsSmall graph i n t
read_small graph good i n inside below tasks same t read =
    let is : t ≡ task_at graph i = read ∙ task_read graph tasks i t same inside in
    let small = job_small graph good i n inside below t is in
    record { is = is; release = small.0; due = small.1 }

-- the fault, by its parts
pub narrow_is : (graph : TaskGraph) (bests : List ℕ) (task : TaskNo) (n : ℕ) (t : Task) → t ≡ task_at graph task.0 → n < jobs_of graph task.0 →
    (index : ℕ) → index ≡ jobs_before graph task.0 + n → (job : ℤ) → job ≡ pos n →
    (needs : ℤ) → needs ≡ pos (t.clock.start + n * t.clock.period + slice_index bests index) → (has : ℤ) → has ≡ pos (t.clock.start + n * t.clock.period + t.due) →
    faults.Narrow task job needs has ≡ faults.Narrow task (pos n) (dates_of graph bests task.0 (pos n)) (deadline_of (task_at graph task.0) (pos n))
narrow_is graph bests task n t is below index at job job_is needs needs_is has has_is =
    let date : dates_of graph bests task.0 (pos n) ≡ needs =
    date_here graph bests task.0 n below
    ∙ ap (λ (x : ℕ). release_of (task_at graph task.0) (pos n) +ℤ pos (slice_index bests x)) (sym at)
    ∙ ap (λ (x : Task). release_of x (pos n) +ℤ pos (slice_index bests index)) (sym is)
    ∙ (let e : release_of t (pos n) +ℤ pos (slice_index bests index) ≡ needs = omega (arith, ints, needs_is) in e) in
    let due : deadline_of (task_at graph task.0) (pos n) ≡ has =
    ap (λ (x : Task). deadline_of x (pos n)) (sym is) ∙ (let e : deadline_of t (pos n) ≡ has = omega (arith, ints, has_is) in e) in
    ap (λ (z : ℤ). faults.Narrow task z needs has) job_is ∙ ap (λ (z : ℤ). faults.Narrow task (pos n) z has) (sym date)
    ∙ ap (λ (z : ℤ). faults.Narrow task (pos n) (dates_of graph bests task.0 (pos n)) z) (sym due)

module _ (graph : TaskGraph) (good : IsWellFormed graph) where
  first_value : (table : List ℕ) → IsFirstTable graph firsts.Wcet (length graph.tasks) table → (i : ℕ) (m : ℤ) → i < length graph.tasks →
      dates_of graph table i m ≡ release_of (task_at graph i) m +ℤ pos (task_at graph i).wcet
  first_value table is i m inside =
      ap (λ (x : ℕ). release_of (task_at graph i) m +ℤ pos x)
      (is.each i (place_in m (jobs_of graph i)) inside (place_below (jobs_of graph i) (some_jobs graph good i inside) m))

  -- over chains of one job the best is the release and the WCET
  pub first_bests : (table : List ℕ) → IsFirstTable graph firsts.Wcet (length graph.tasks) table → AreBests graph 0 (dates_of graph table)
  first_bests table is = record {
    bests = λ job inside.
        (let v = first_value table is job.task job.number inside in
        let few : 0 + 1 ≤ 0 + 1 = omega arith in
        record {
          attained = (job, [], record { chain = inside; few = few; last = refl }, sym v);
          none_above = λ first rest ends. alone job first rest ends (dates_of graph table job.task job.number) v;
        });
    rises = λ i a b inside order.
        omega (arith, ints, first_value table is i a inside, first_value table is i b inside, release_rises graph i a b order);
  }
    where
      alone : (job first : Job) (rest : List Job) → EndsIn graph (0 + 1) job first rest → (date : ℤ) → date ≡ release_of (task_at graph job.task) job.number +ℤ pos (task_at graph job.task).wcet →
          needs_of graph first rest ≤ℤ date
      alone job first [] ends date is =
          subst (λ (j : Job). needs_of graph j [] ≤ℤ date) (sym ends.last) (omega (arith, ints, is))
      alone job first (next ∷ rest) ends date is = absurd (let f = ends.few in omega (arith, f))

  module _ (most : ℕ) (is : most ≡ jobs_in_hyperperiod graph - 1) (now : List ℕ) (bests : AreBests graph most (dates_of graph now)) where
    -- the best over chains of at most a hyperperiod's jobs
    best_here : (i p : ℕ) → IsOfPeriod graph i p → IsBest graph (jobs_in_hyperperiod graph) (record { task = i; number = pos p }) (dates_of graph now i (pos p))
    best_here i p of =
        subst (λ (n : ℕ). IsBest graph n (record { task = i; number = pos p }) (dates_of graph now i (pos p)))
        (let e : most + 1 ≡ jobs_in_hyperperiod graph = omega (arith, index_below graph i p of.0 of.1, is) in e)
        (bests.bests (record { task = i; number = pos p }) of.0)

    module _ (dues : List ℕ) (spread : IsFirstTable graph firsts.Due (length graph.tasks) dues) where
      late_is_above : (i p : ℕ) → IsOfPeriod graph i p → IsSomehowLate graph (record { task = i; number = pos p }) →
          slice_index dues (jobs_before graph i + p) < slice_index now (jobs_before graph i + p)
      late_is_above i p of late =
          let l : IsLate graph (record { task = i; number = pos p }) late.0 late.1 = late.2 in
          let v = date_here graph now i p of.1 in
          let d = spread.each i p of.0 of.1 in
          omega (arith, ints, one_best graph (jobs_in_hyperperiod graph) (record { task = i; number = pos p }) late.0 (dates_of graph now i (pos p)) l.best (best_here i p of), v, d, l.due, l.late)

      pub late_fault : (task : TaskNo) (n : ℕ) → IsFirstAbove graph now dues task.0 n →
          IsDateFault graph (faults.Narrow task (pos n) (dates_of graph now task.0 (pos n)) (deadline_of (task_at graph task.0) (pos n)))
      late_fault task n at =
          let late : IsLate graph (record { task = task.0; number = pos n }) (dates_of graph now task.0 (pos n)) (deadline_of (task_at graph task.0) (pos n)) = record {
            best = best_here task.0 n at.of_period;
            due = refl;
            late =
                omega (arith, ints, date_here graph now task.0 n at.of_period.1, spread.each task.0 n at.of_period.0 at.of_period.1, at.above);
          } in (
            late,
            record {
              job = (n, refl, at.of_period);
              has = (dates_of graph now task.0 (pos n), deadline_of (task_at graph task.0) (pos n), late);
              none_lower = λ j p of somehow. lower task.0 j n p (at.none_lower j p of (late_is_above j p of somehow));
            },
          )
        where
          lower : (i j n p : ℕ) → (i < j) ⊎ ((i ≡ j) × (n ≤ p)) → (i < j) ⊎ ((i ≡ j) × (pos n ≤ℤ pos p))
          lower i j n p (inl less) = inl less
          lower i j n p (inr same) = inr (same.0, omega (arith, ints, same.1))

      pub none_late : IsNowhereAbove graph (length graph.tasks) now dues → NoneOfPeriod graph (IsSomehowLate graph)
      none_late below i p of late =
          absurd (omega (arith, late_is_above i p of late, below i p of.0 of.1))

      pub within_dues : IsNowhereAbove graph (length graph.tasks) now dues → (i p : ℕ) → i < length graph.tasks → p < jobs_of graph i →
          slice_index now (jobs_before graph i + p) ≤ (task_at graph i).due
      within_dues below i p inside less =
          omega (arith, below i p inside less, spread.each i p inside less)

      module _ (lanes : List Lane) (are : AreLanes graph lanes) (next : List ℕ) (round : AreRound graph lanes (length lanes) now next) where
        next_here : AreBests graph (most + 1) (dates_of graph next)
        next_here = next_bests graph good most (dates_of graph now) (dates_of graph next) bests (round_of_tables graph good lanes are now next round bests.rises)

        loop_is_above : (i p : ℕ) → IsOfPeriod graph i p → EndsLoop graph (record { task = i; number = pos p }) →
            slice_index now (jobs_before graph i + p) < slice_index next (jobs_before graph i + p)
        loop_is_above i p of loop =
            let few : length loop.rest + 1 ≤ most + 1 + 1 = (let l = loop.long in omega (arith, l, index_below graph i p of.0 of.1, is)) in
            let up = (next_here.bests (record { task = i; number = pos p }) of.0).none_above loop.first loop.rest (record { chain = loop.chain; few = few; last = loop.last }) in
            let x = loop.longer in
            let v = date_here graph now i p of.1 in
            let w = date_here graph next i p of.1 in
            omega (arith, ints, one_best graph (jobs_in_hyperperiod graph) (record { task = i; number = pos p }) loop.best (dates_of graph now i (pos p)) loop.is_best (best_here i p of), up, x, v, w)

        loop_ends : (i n : ℕ) → IsFirstAbove graph next now i n → EndsLoop graph (record { task = i; number = pos n })
        loop_ends i n at =
            let of = at.of_period in
            let a = (next_here.bests (record { task = i; number = pos n }) of.0).attained in
            let e : EndsIn graph (most + 1 + 1) (record { task = i; number = pos n }) a.0 a.1 = a.2 in
            let longer : dates_of graph now i (pos n) <ℤ needs_of graph a.0 a.1 = (let s = a.3 in omega (arith, ints, s, date_here graph now i n of.1, date_here graph next i n of.1, at.above)) in
            record {
              best = dates_of graph now i (pos n);
              is_best = best_here i n of;
              first = a.0;
              rest = a.1;
              chain = e.chain;
              long =
                  elim (cases_lt (length a.1) (jobs_in_hyperperiod graph)) [
                    | inl short ↦ absurd
                        (let few : length a.1 + 1 ≤ most + 1 = omega (arith, short, is) in
                        omega (arith, ints, (bests.bests (record { task = i; number = pos n }) of.0).none_above a.0 a.1 (record { chain = e.chain; few = few; last = e.last }), longer))
                    | inr above ↦ (let f = e.few in omega (arith, above, f, is, index_below graph i n of.0 of.1))
                  ];
              last = e.last;
              longer = longer;
            }

        pub loop_fault : IsNowhereAbove graph (length graph.tasks) now dues → (task : TaskNo) (n : ℕ) → IsFirstAbove graph next now task.0 n →
            IsDateFault graph (faults.Loop task (pos n))
        loop_fault below task n at = (
          none_late below,
          record {
            job = (n, refl, at.of_period);
            has = loop_ends task.0 n at;
            none_lower = λ j p of loop. lower task.0 j n p (at.none_lower j p of (loop_is_above j p of loop));
          },
        )
          where
            lower : (i j n p : ℕ) → (i < j) ⊎ ((i ≡ j) × (n ≤ p)) → (i < j) ⊎ ((i ≡ j) × (pos n ≤ℤ pos p))
            lower i j n p (inl less) = inl less
            lower i j n p (inr same) = inr (same.0, omega (arith, ints, same.1))

        -- a round in which nothing rises
        pub round_still : IsNowhereAbove graph (length graph.tasks) next now → AreRound graph lanes (length lanes) now now
        round_still below = record {
          long = refl;
          up = λ q. omega arith;
          asks = λ l lane less stands k inside.
              (let lane_is = are.each l lane stands in
              let v : slice_index next (lane.first + k) ≡ slice_index next (jobs_before graph lane.to.0 + k) = ap (λ (x : ℕ). slice_index next (x + k)) lane_is.first in
              let w : slice_index now (lane.first + k) ≡ slice_index now (jobs_before graph lane.to.0 + k) = ap (λ (x : ℕ). slice_index now (x + k)) lane_is.first in
              omega (arith, round.asks l lane less stands k inside, below lane.to.0 k lane_is.to (omega (arith, lane_is.long, inside)), v, w));
          only = λ q. inl refl;
        }
