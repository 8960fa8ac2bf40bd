-- The tables of bests and of lowered deadlines tell the encoded dates, and so do their shortest lists.
use Rattle.prl_base.proofs.Standard.{◌≡◌, ◌+◌, ◌-◌, ◌%◌, ◌<◌, ◌≤◌, ℕ, List, length, take, Some, sym, ◌∙◌, ap, arith, ℤ, pos, ◌+ℤ◌, ◌-ℤ◌, ◌≤ℤ◌, slice_get, slice_index, slice_index_or, mod-eq_of_lt}
use Rattle.prl_base.proofs.Standard.{ints, length-take-le, mod_below, slice_get-get_or, slice_get_within}
use Rattle.prl_plan.specs.Vocabulary.{AreReleases, AreDeadlines, AreLeastReleases, AreGreatestDeadlines, AreEncodedDates, place_in, no_window, window_at, encoded_release, encoded_deadline}
use Rattle.prl_plan.specs.Vocabulary.{IsWellFormed, jobs_in_hyperperiod, Job, task_at, release_of, HaveRoom, AreShortWindows, Precedes, IsLeastRepeat}
use Rattle.prl_plan.specs.declared.graphs.TaskGraph.{TaskGraph}
use Rattle.prl_plan.specs.declared.tables.Window.{Window}
use Rattle.prl_plan.proofs.RoundPeriods.{task_is}
use Rattle.prl_plan.proofs.ShortestRepeats.{cut_repeats, cut_is_shortest}
use Rattle.prl_dates.specs.declared.bests.First.TheVariants as firsts
use Rattle.prl_dates.specs.Vocabulary.{Lane, jobs_of, IsRound, AreLanes, jobs_before, index_of, dates_of, LeaveAll, IsFirstTable, AreFinal, AreUpperDates, window_of, AreWindowsOf, AreWindows}
use Rattle.prl_dates.proofs.BestRounds.{above_release, least_releases}
use Rattle.prl_dates.proofs.ChainEnds.{both_inside}
use Rattle.prl_dates.proofs.Settles.{date_here}
use Rattle.prl_dates.proofs.Indices.{place_below, some_jobs}
use Rattle.prl_dates.proofs.TableRounds.{Linked, linked, linked_order, round_of_tables}
use Rattle.prl_dates.proofs.WindowTables.{table_rises, window_is}

module _ (graph : TaskGraph) (good : IsWellFormed graph) (lanes : List Lane) (are : AreLanes graph lanes) (bests : List ℕ) (final : AreFinal graph lanes bests) where
  still : IsRound graph (dates_of graph bests) (dates_of graph bests)
  still = round_of_tables graph good lanes are bests bests final.still final.bests.rises

  pub least : AreLeastReleases graph (λ i m. dates_of graph bests i m -ℤ pos (task_at graph i).wcet)
  least = least_releases graph good final.rounds (dates_of graph bests) final.bests still

  above : (i : ℕ) (m : ℤ) → i < length graph.tasks → (release_of (task_at graph i) m +ℤ pos (task_at graph i).wcet) ≤ℤ dates_of graph bests i m
  above i m inside = above_release graph good final.rounds (dates_of graph bests) final.bests still i m inside

  -- each best is at least the WCET
  pub best_room : (i p : ℕ) → i < length graph.tasks → p < jobs_of graph i → (task_at graph i).wcet ≤ slice_index bests (jobs_before graph i + p)
  best_room i p inside below =
      omega (arith, ints, above i (pos p) inside, date_here graph bests i p below)

  -- the deadlines begin with the dues
  pub first_dates : (dues : List ℕ) → IsFirstTable graph firsts.Due (length graph.tasks) dues → length dues ≡ jobs_in_hyperperiod graph → AreUpperDates graph bests dues
  first_dates dues spread long = record {
    long = long;
    floors = λ i p inside below. omega (arith, spread.each i p inside below, final.due i p inside below);
    due = λ i p inside below. omega (arith, spread.each i p inside below);
    above = λ other of i m inside.
        omega (arith, ints, of.below i m inside, spread.each i (place_in m (jobs_of graph i)) inside (place_below (jobs_of graph i) (some_jobs graph good i inside) m));
  }

  pub floors_leave : LeaveAll graph lanes (length lanes) bests
  floors_leave l lane less stands k inside = final.still.asks l lane less stands k inside

  module _ (tails : List ℕ) (upper : AreUpperDates graph bests tails) (leave : LeaveAll graph lanes (length lanes) tails) where
    value : (i : ℕ) (m : ℤ) → i < length graph.tasks → (slice_index bests (index_of graph i m) ≤ slice_index tails (index_of graph i m)) × (slice_index tails (index_of graph i m) ≤ (task_at graph i).due)
    value i m inside =
        let p = place_below (jobs_of graph i) (some_jobs graph good i inside) m in
        (upper.floors i (place_in m (jobs_of graph i)) inside p, upper.due i (place_in m (jobs_of graph i)) inside p)

    -- within the periods
    dues : (i p : ℕ) → i < length graph.tasks → p < jobs_of graph i → slice_index tails (jobs_before graph i + p) ≤ (task_at graph i).clock.period
    dues i p inside below = omega (arith, upper.due i p inside below, (task_is graph good i inside).due.1)

    order : (first second : Job) → Precedes graph first second →
        (dates_of graph tails first.task first.number +ℤ pos (task_at graph second.task).wcet) ≤ℤ dates_of graph tails second.task second.number
    order first second h =
        let at : Linked graph good lanes are first second = linked graph good lanes are first second h in
        linked_order graph good lanes are tails tails (table_rises graph good tails dues) first second at
        (leave at.l at.lane (slice_get_within lanes at.l at.lane at.stands) at.stands at.k (omega (arith, at.below, at.is.long)))

    pub greatest : AreGreatestDeadlines graph (dates_of graph tails)
    greatest = record {
      deadlines = record {
        below = λ i m inside. omega (arith, ints, (value i m inside).1);
        along = order;
      };
      greatest = λ other of i m inside. upper.above other of i m inside;
    }

    pub rooms : (i : ℕ) (m : ℤ) → i < length graph.tasks → dates_of graph bests i m ≤ℤ dates_of graph tails i m
    rooms i m inside = omega (arith, ints, (value i m inside).0)

    -- the windows of lists that repeat are those of the tables
    module _ (windows : List (List Window)) (lists : AreWindows graph bests tails (length graph.tasks) windows) where
      release_is : (i : ℕ) (m : ℤ) → i < length graph.tasks → encoded_release graph windows i m ≡ dates_of graph bests i m -ℤ pos (task_at graph i).wcet
      release_is i m inside =
          let w : (window_at windows i m).lead ≡ slice_index bests (index_of graph i m) - (task_at graph i).wcet = ap (λ (x : Window). x.lead) (window_is graph good bests tails windows lists i inside m) in
          omega (arith, ints, w, best_room i (place_in m (jobs_of graph i)) inside (place_below (jobs_of graph i) (some_jobs graph good i inside) m))

      deadline_is : (i : ℕ) (m : ℤ) → i < length graph.tasks → encoded_deadline graph windows i m ≡ dates_of graph tails i m
      deadline_is i m inside = omega (arith, ints, ap (λ (x : Window). x.tail) (window_is graph good bests tails windows lists i inside m))

      releases : AreReleases graph (encoded_release graph windows)
      releases = record {
        above = λ i m inside. omega (arith, ints, least.releases.above i m inside, release_is i m inside);
        along = λ before after h.
            (let both = both_inside graph good before after h in
            omega (arith, ints, least.releases.along before after h, release_is before.task before.number both.0, release_is after.task after.number both.1));
      }

      deadlines : AreDeadlines graph (encoded_deadline graph windows)
      deadlines = record {
        below = λ i m inside. omega (arith, ints, greatest.deadlines.below i m inside, deadline_is i m inside);
        along = λ before after h.
            (let both = both_inside graph good before after h in
            omega (arith, ints, greatest.deadlines.along before after h, deadline_is before.task before.number both.0, deadline_is after.task after.number both.1));
      }

      pub dates_made : AreEncodedDates graph windows
      dates_made = record {
        lists = lists.long;
        some = λ i inside. omega (arith, (lists.each i inside).some);
        releases = record {
          releases = releases;
          least = λ other of i m inside. omega (arith, ints, least.least other of i m inside, release_is i m inside);
        };
        deadlines = record {
          deadlines = deadlines;
          greatest = λ other of i m inside. omega (arith, ints, greatest.greatest other of i m inside, deadline_is i m inside);
        };
      }

      pub room_made : HaveRoom graph windows
      room_made = record {
        room = λ i m inside.
            omega (arith, ints, rooms i m inside, release_is i m inside, deadline_is i m inside);
      }

      pub short_made : AreShortWindows windows
      short_made i inside = (lists.each i (omega (arith, lists.long, inside))).short

-- the list cut to its shortest
pub cut_made : (graph : TaskGraph) (good : IsWellFormed graph) (bests tails : List ℕ) (i : ℕ) → i < length graph.tasks → (list : List Window) → length list ≡ jobs_of graph i →
    ((p : ℕ) → p < jobs_of graph i → slice_index_or list p no_window ≡ window_of graph i bests tails (jobs_before graph i + p)) →
    (step : ℕ) → IsLeastRepeat list step → AreWindowsOf graph bests tails i (take step list)
cut_made graph good bests tails i inside list long each step cut =
    let cut_long : length (take step list) ≡ step = length-take-le step list cut.within in
    record {
      some = (let s = cut.some in omega (arith, s, cut_long));
      divides = ap (λ (n : ℕ). jobs_of graph i % n) cut_long ∙ ap (λ (n : ℕ). n % step) (sym long) ∙ cut.divides;
      each = λ p below.
          (let r = cut_repeats list step cut p in
          let x : slice_get (take step list) (p % length (take step list)) ≡ Some (slice_index_or (take step list) (p % length (take step list)) no_window) =
          slice_get-get_or (take step list) (p % length (take step list)) no_window (mod_below p (length (take step list)) (let s = cut.some in omega (arith, s, cut_long))) in
          let inner : p % length list ≡ p = mod-eq_of_lt (omega (arith, below, long)) in
          let y : slice_get list (p % length list) ≡ Some (slice_index_or list p no_window) =
          ap (λ (k : ℕ). slice_get list k) inner ∙ slice_get-get_or list p no_window (omega (arith, below, long)) in
          one_window (slice_index_or (take step list) (p % length (take step list)) no_window) (slice_index_or list p no_window) (sym x ∙ r ∙ y) ∙ each p below);
      short = cut_is_shortest list step cut;
    }
  where
    one_window : (a b : Window) → Some a ≡ Some b → a ≡ b
    one_window a b same = cc
