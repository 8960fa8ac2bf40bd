-- The tables of ends tell the least spread releases, and so do their shortest lists.
use Rattle.prl_base.proofs.Standard.{◌≡◌, ◌+◌, ◌-◌, ◌<◌, ◌≤◌, ◌^◌, ℕ, true, List, length, Some, sym, ◌∙◌, ap, arith, ℤ, pos, ◌+ℤ◌, ◌-ℤ◌, ◌≤ℤ◌, filter, slice_get, slice_index, ◌==◌, eq-eqb, eqb-true}
use Rattle.prl_base.proofs.Standard.{ints, slice_get_within}
use Rattle.prl_plan.specs.Vocabulary.{Family, RepeatsByHyper, place_in, window_at, encoded_release, encoded_deadline, jobs_in_hyperperiod, Job, task_at, release_of, PlanView, IsPlan, Precedes}
use Rattle.prl_plan.specs.Vocabulary.{AreTogether, AreSpreadReleases, IsSpread}
use Rattle.prl_plan.specs.declared.tables.Window.{Window}
use Rattle.prl_plan.proofs.DatePeriods.{least_repeat, greatest_repeat}
use Rattle.prl_plan.proofs.RoundPeriods.{task_is}
use Rattle.prl_dates.specs.Vocabulary.{Lane, Bound, jobs_of, jobs_before, index_of, dates_of, AreLanes, AreEachLane, IsTableOf, AreEndsAcross, IsBelow, KeepsLanes, HasCeiling, IsLeastAbove}
use Rattle.prl_dates.specs.Vocabulary.{AreSpreadEnds, AreWithin, AreWindows}
use Rattle.prl_dates.specs.declared.spreads.Bound.TheVariants as bounds
use Rattle.prl_dates.proofs.ChainEnds.{both_inside}
use Rattle.prl_dates.proofs.Indices.{before_all, place_below, some_jobs}
use Rattle.prl_dates.proofs.Links.{link_precedes}
use Rattle.prl_dates.proofs.Settles.{date_here}
use Rattle.prl_dates.proofs.SpreadRounds.{across_least, due_small}
use Rattle.prl_dates.proofs.SpreadSteps.{IsItem, kept_item, item_kept}
use Rattle.prl_dates.proofs.TableRounds.{Linked, linked, linked_order}
use Rattle.prl_dates.proofs.WindowTables.{table_rises, table_tells, window_is}

-- the lanes within processors
abbrev pub within : List ℕ → List Lane → List Lane
within processors lanes = filter (λ (lane : Lane). slice_index processors lane.from.0 == slice_index processors lane.to.0) lanes

module _ (plan : PlanView) (is : IsPlan plan) where
  -- the windows of a plan leave room for the WCETs within the dues
  pub window_fits : (i n : ℕ) → i < length plan.graph.tasks → ((window_at plan.windows i (pos n)).lead + (task_at plan.graph i).wcet ≤ (window_at plan.windows i (pos n)).tail)
      × ((window_at plan.windows i (pos n)).tail ≤ (task_at plan.graph i).due)
  window_fits i n inside =
      let d = is.dates.deadlines.deadlines.below i (pos n) inside in (
        omega (arith, ints, is.room.room i (pos n) inside),
        omega (arith, ints, d),
      )

  pub window_small : (i n : ℕ) → i < length plan.graph.tasks → (window_at plan.windows i (pos n)).tail < 2 ^ 31
  window_small i n inside =
      let t = task_is plan.graph is.graph i inside in
      omega (arith, (window_fits i n inside).1, t.due.1, t.period.1)

  pub deadlines_tell : (deadlines : List ℕ) → IsTableOf plan bounds.Deadline deadlines → (i : ℕ) (m : ℤ) → i < length plan.graph.tasks →
      dates_of plan.graph deadlines i m ≡ encoded_deadline plan.graph plan.windows i m
  deadlines_tell deadlines table i m inside =
      table_tells plan.graph is.graph deadlines (encoded_deadline plan.graph plan.windows)
      (greatest_repeat plan.graph is.graph (encoded_deadline plan.graph plan.windows) is.dates.deadlines) i inside
      (λ n below. ap (λ (x : ℕ). release_of (task_at plan.graph i) (pos n) +ℤ pos x) (table.each i n inside below)) m

  ends_repeat : RepeatsByHyper plan.graph (λ i m. encoded_release plan.graph plan.windows i m +ℤ pos (task_at plan.graph i).wcet)
  ends_repeat = record {
    again = λ i jobs inside times m.
        omega (arith, ints, (least_repeat plan.graph is.graph (encoded_release plan.graph plan.windows) is.dates.releases).again i jobs inside times m);
  }

  pub ends_tell : (ends : List ℕ) → IsTableOf plan bounds.End ends → (i : ℕ) (m : ℤ) → i < length plan.graph.tasks →
      dates_of plan.graph ends i m ≡ encoded_release plan.graph plan.windows i m +ℤ pos (task_at plan.graph i).wcet
  ends_tell ends table i m inside =
      table_tells plan.graph is.graph ends (λ i m. encoded_release plan.graph plan.windows i m +ℤ pos (task_at plan.graph i).wcet) ends_repeat i inside
      (λ n below. omega (arith, ints, table.each i n inside below)) m

  pub table_long : (bound : Bound) (table : List ℕ) → IsTableOf plan bound table → length table ≡ jobs_in_hyperperiod plan.graph
  table_long bound table is_table = omega (arith, is_table.long, before_all plan.graph)

  pub deadlines_small : (table : List ℕ) → IsTableOf plan bounds.Deadline table → AreWithin table (2 ^ 62)
  deadlines_small table of q =
      (let w = due_small plan.graph is.graph table (table_long bounds.Deadline table of)
      (λ i m inside. omega (arith, ints, deadlines_tell table of i m inside, is.dates.deadlines.deadlines.below i m inside)) q in
      omega (arith, w))

  module _ (processors : List ℕ) (lanes : List Lane) (are : AreLanes plan.graph lanes) (deadlines : List ℕ) (of_deadlines : IsTableOf plan bounds.Deadline deadlines)
      (across : List ℕ) (made : AreEndsAcross plan lanes processors deadlines across) where
    item : (l : ℕ) (lane : Lane) → slice_get (within processors lanes) l ≡ Some lane →
        IsItem (λ (lane : Lane). slice_index processors lane.from.0 == slice_index processors lane.to.0) lanes lane
    item l lane stands = kept_item (λ (lane : Lane). slice_index processors lane.from.0 == slice_index processors lane.to.0) lanes l lane stands

    pub each_within : AreEachLane plan.graph (within processors lanes)
    each_within l lane stands = are.each (item l lane stands).at lane (item l lane stands).stands

    -- what is raised across is below each family that is not below the plan's ends and keeps the lanes across
    across_below : (date : Family) → ((before after : Job) → Precedes plan.graph before after → (AreTogether processors before.task after.task → ⊥) →
        (encoded_deadline plan.graph plan.windows before.task before.number +ℤ pos (task_at plan.graph after.task).wcet) ≤ℤ date after.task after.number) →
        IsBelow plan.graph (λ i m. encoded_release plan.graph plan.windows i m +ℤ pos (task_at plan.graph i).wcet) date → IsBelow plan.graph (dates_of plan.graph across) date
    across_below date asks above =
        across_least plan.graph is.graph lanes are.each processors deadlines made.base across made.raised date
        (λ l lane stands apart k n m link.
        (let a = asks (record { task = lane.from.0; number = m }) (record { task = lane.to.0; number = n }) (link_precedes plan.graph is.graph lane k n m link) apart in
        omega (arith, ints, a, deadlines_tell deadlines of_deadlines lane.from.0 m (are.each l lane stands).from)))
        (λ i m inside. (let a = above i m inside in omega (arith, ints, a, ends_tell made.base made.of_base i m inside)))

    -- and so below the deadlines
    deadlines_keep : KeepsLanes plan.graph (within processors lanes) (encoded_deadline plan.graph plan.windows)
    deadlines_keep l lane stands k n m link =
        is.dates.deadlines.deadlines.along (record { task = lane.from.0; number = m }) (record { task = lane.to.0; number = n }) (link_precedes plan.graph is.graph lane k n m link)

    across_due : IsBelow plan.graph (dates_of plan.graph across) (encoded_deadline plan.graph plan.windows)
    across_due =
        across_below (encoded_deadline plan.graph plan.windows) (λ before after precedes apart. is.dates.deadlines.deadlines.along before after precedes)
        (λ i m inside. is.room.room i m inside)

    pub across_ceiling : HasCeiling plan.graph (within processors lanes) across
    across_ceiling = record {
      ceiling = encoded_deadline plan.graph plan.windows;
      keeps = deadlines_keep;
      above = across_due;
      within = λ i m inside. is.dates.deadlines.deadlines.below i m inside;
    }

    pub ends_long : length across ≡ jobs_in_hyperperiod plan.graph
    ends_long = made.raised.long ∙ table_long bounds.End made.base made.of_base

    module _ (ends : List ℕ) (least : IsLeastAbove plan.graph (within processors lanes) across ends) where
      ends_above : (i : ℕ) (m : ℤ) → i < length plan.graph.tasks →
          (encoded_release plan.graph plan.windows i m +ℤ pos (task_at plan.graph i).wcet) ≤ℤ dates_of plan.graph ends i m
      ends_above i m inside =
          omega (arith, ints, ends_tell made.base made.of_base i m inside, made.raised.up (index_of plan.graph i m), least.up (index_of plan.graph i m))

      ends_due : (i p : ℕ) → i < length plan.graph.tasks → p < jobs_of plan.graph i → slice_index ends (jobs_before plan.graph i + p) ≤ (task_at plan.graph i).clock.period
      ends_due i p inside below =
          let h = date_here plan.graph ends i p below in
          let t = (task_is plan.graph is.graph i inside).due.1 in
          omega (arith, ints, least.least (encoded_deadline plan.graph plan.windows) deadlines_keep across_due i (pos p) inside, is.dates.deadlines.deadlines.below i (pos p) inside, h, t)

      deadlines_due : (i p : ℕ) → i < length plan.graph.tasks → p < jobs_of plan.graph i → slice_index deadlines (jobs_before plan.graph i + p) ≤ (task_at plan.graph i).clock.period
      deadlines_due i p inside below =
          omega (arith, of_deadlines.each i p inside below, (window_fits i p inside).1, (task_is plan.graph is.graph i inside).due.1)

      ends_within : (before after : Job) → Precedes plan.graph before after → AreTogether processors before.task after.task →
          (dates_of plan.graph ends before.task before.number +ℤ pos (task_at plan.graph after.task).wcet) ≤ℤ dates_of plan.graph ends after.task after.number
      ends_within before after precedes together =
          let at : Linked plan.graph is.graph lanes are before after = linked plan.graph is.graph lanes are before after precedes in
          let passes : (slice_index processors at.lane.from.0 == slice_index processors at.lane.to.0) ≡ true =
          eq-eqb (slice_index processors at.lane.from.0) (slice_index processors at.lane.to.0)
          (ap (λ (i : ℕ). slice_index processors i) at.from ∙ together ∙ ap (λ (i : ℕ). slice_index processors i) (sym at.to)) in
          let there = item_kept (λ (lane : Lane). slice_index processors lane.from.0 == slice_index processors lane.to.0) lanes at.l at.lane at.stands passes in
          linked_order plan.graph is.graph lanes are ends ends (table_rises plan.graph is.graph ends ends_due) before after at
          (least.leaves there.0 at.lane (slice_get_within (within processors lanes) there.0 at.lane there.1) there.1 at.k (let b = at.below in let l = at.is.long in omega (arith, b, l)))

      ends_across : (before after : Job) → Precedes plan.graph before after → (AreTogether processors before.task after.task → ⊥) →
          (encoded_deadline plan.graph plan.windows before.task before.number +ℤ pos (task_at plan.graph after.task).wcet) ≤ℤ dates_of plan.graph ends after.task after.number
      ends_across before after precedes apart =
          let at : Linked plan.graph is.graph lanes are before after = linked plan.graph is.graph lanes are before after precedes in
          let apart' : AreTogether processors at.lane.from.0 at.lane.to.0 → ⊥ =
          λ together. apart (ap (λ (i : ℕ). slice_index processors i) (sym at.from) ∙ together ∙ ap (λ (i : ℕ). slice_index processors i) at.to) in
          let o = linked_order plan.graph is.graph lanes are deadlines across (table_rises plan.graph is.graph deadlines deadlines_due) before after at
          (made.raised.asks at.l at.lane (slice_get_within lanes at.l at.lane at.stands) at.stands apart' at.k (omega (arith, at.below, at.is.long))) in
          let u = least.up (index_of plan.graph after.task after.number) in
          omega (arith, ints, o, deadlines_tell deadlines of_deadlines before.task before.number (both_inside plan.graph is.graph before after precedes).0, u)

      ends_least : (other : Family) → AreSpreadReleases plan.graph plan.windows processors other → IsBelow plan.graph (dates_of plan.graph ends) (λ i m. other i m +ℤ pos (task_at plan.graph i).wcet)
      ends_least other of =
          least.least (λ i m. other i m +ℤ pos (task_at plan.graph i).wcet)
          (λ l lane stands k n m link.
          (let together = eqb-true (slice_index processors lane.from.0) (slice_index processors lane.to.0) (item l lane stands).passes in
          omega (arith, ints, of.within (record { task = lane.from.0; number = m }) (record { task = lane.to.0; number = n }) (link_precedes plan.graph is.graph lane k n m link) together)))
          (across_below (λ i m. other i m +ℤ pos (task_at plan.graph i).wcet)
          (λ before after precedes apart. (let a = of.across before after precedes apart in omega (arith, ints, a)))
          (λ i m inside. (let a = of.above i m inside in omega (arith, ints, a))))

      pub spread_made : AreSpreadEnds plan processors ends
      spread_made = record {
        long = least.long ∙ ends_long;
        releases = record {
          releases = record {
            above = λ i m inside. omega (arith, ints, ends_above i m inside);
            within = λ before after precedes together. omega (arith, ints, ends_within before after precedes together);
            across = λ before after precedes apart. omega (arith, ints, ends_across before after precedes apart);
          };
          least = λ other of i m inside. omega (arith, ints, ends_least other of i m inside);
        };
      }

  module _ (processors ends deadlines : List ℕ) (spread : AreSpreadEnds plan processors ends) where
    -- each end is at least the WCET
    pub end_room : (i p : ℕ) → i < length plan.graph.tasks → p < jobs_of plan.graph i → (task_at plan.graph i).wcet ≤ slice_index ends (jobs_before plan.graph i + p)
    end_room i p inside below =
        omega (arith, ints, spread.releases.releases.above i (pos p) inside, date_here plan.graph ends i p below)

    module _ (windows : List (List Window)) (lists : AreWindows plan.graph ends deadlines (length plan.graph.tasks) windows) where
      release_is : (i : ℕ) (m : ℤ) → i < length plan.graph.tasks → encoded_release plan.graph windows i m ≡ dates_of plan.graph ends i m -ℤ pos (task_at plan.graph i).wcet
      release_is i m inside =
          let w : (window_at windows i m).lead ≡ slice_index ends (index_of plan.graph i m) - (task_at plan.graph i).wcet =
          ap (λ (x : Window). x.lead) (window_is plan.graph is.graph ends deadlines windows lists i inside m) in
          omega (arith, ints, w, end_room i (place_in m (jobs_of plan.graph i)) inside (place_below (jobs_of plan.graph i) (some_jobs plan.graph is.graph i inside) m))

      pub windows_spread : length processors ≡ length plan.graph.tasks → IsSpread plan (record { processors = processors; windows = windows })
      windows_spread long = record {
        tasks = long;
        lists = lists.long;
        releases = record {
          releases = record {
            above = λ i m inside. (let a = spread.releases.releases.above i m inside in let e = release_is i m inside in omega (arith, ints, a, e));
            within = λ before after precedes together.
                (let both = both_inside plan.graph is.graph before after precedes in
                omega (arith, ints, spread.releases.releases.within before after precedes together, release_is before.task before.number both.0, release_is after.task after.number both.1));
            across = λ before after precedes apart.
                omega (arith, ints, spread.releases.releases.across before after precedes apart, release_is after.task after.number (both_inside plan.graph is.graph before after precedes).1);
          };
          least = λ other of i m inside. (let a = spread.releases.least other of i m inside in let e = release_is i m inside in omega (arith, ints, a, e));
        };
      }
