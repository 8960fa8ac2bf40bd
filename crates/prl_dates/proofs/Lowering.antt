-- Deadlines lowered along a link.
use Rattle.prl_base.proofs.Standard.{◌≡◌, ◌+◌, ◌-◌, ◌<◌, ◌≤◌, ◌⊎◌, ℕ, List, length, Some, inl, inr, refl, sym, ◌∙◌, ap, subst, arith, ℤ, pos}
use Rattle.prl_base.proofs.Standard.{◌≤ℤ◌, sum, slice_get, slice_index, cases_lt, ints, sum_by-set}
use Rattle.prl_base.proofs.Standard.{◌++◌, [], ◌∷◌, same_Some, slice_get_within}
use Rattle.std.proofs.Math.ListN.{set}
use Rattle.std.proofs.lemmas.List.{length-set}
use Rattle.prl_plan.specs.Vocabulary.{jobs_in_hyperperiod, AreDeadlines, Family, place_in, IsWellFormed, task_at, release_of}
use Rattle.prl_plan.specs.declared.graphs.TaskGraph.{TaskGraph}
use Rattle.prl_dates.specs.Vocabulary.{Lane, jobs_of, link_at, IsLink, IsLane, AreEachLane, jobs_before, index_of, dates_of, Leaves, LeaveAll, AreUpperDates, AreLowered, HoldAll, HoldAt, HoldsAt, IsListed}
use Rattle.prl_dates.proofs.Links.{link_from, link_precedes}
use Rattle.prl_dates.proofs.RoundSteps.{lane_more, links_from, links_to}
use Rattle.prl_dates.proofs.Indices.{one_index, place_below, some_jobs}
use Rattle.prl_dates.proofs.Pushes.{set_index, push_new, listed_more}

module _ (graph : TaskGraph) (good : IsWellFormed graph) (floor table : List ℕ) (are : AreUpperDates graph floor table)
    (lane : Lane) (is : IsLane graph lane) (k : ℕ) (inside : k < length lane.links)
    (floors : Leaves lane (task_at graph lane.to.0).wcet floor floor k) where
  below : k < jobs_of graph lane.to.0
  below = omega (arith, is.long, inside)

  first_link : IsLink graph lane k (pos k) (is.links k (omega (arith, is.long, inside))).0
  first_link = (is.links k (omega (arith, is.long, inside))).1

  first_place : ℕ
  first_place = place_in (is.links k (omega (arith, is.long, inside))).0 (jobs_of graph lane.from.0)

  place_inside : place_in (is.links k (omega (arith, is.long, inside))).0 (jobs_of graph lane.from.0) < jobs_of graph lane.from.0
  place_inside = place_below (jobs_of graph lane.from.0) (some_jobs graph good lane.from.0 is.from) (is.links k (omega (arith, is.long, inside))).0

  -- the link's indices, and the dates in them
  pub from_inside : (link_at lane k).from < length table
  from_inside = omega (arith, links_from graph good lane is k inside, are.long)

  pub to_inside : lane.first + k < length table
  to_inside = omega (arith, links_to graph good lane is, are.long, inside)

  pub to_floor : slice_index floor (lane.first + k) ≤ slice_index table (lane.first + k)
  to_floor =
      subst (λ (q : ℕ). slice_index floor (q + k) ≤ slice_index table (q + k)) (sym is.first) (are.floors lane.to.0 k is.to below)

  pub to_small : slice_index table (lane.first + k) ≤ (task_at graph lane.to.0).due
  to_small = subst (λ (q : ℕ). slice_index table (q + k) ≤ (task_at graph lane.to.0).due) (sym is.first) (are.due lane.to.0 k is.to below)

  -- what the later job asks for, after its WCET
  pub room : (task_at graph lane.to.0).wcet ≤ slice_index table (lane.first + k) + (link_at lane k).gap
  room = omega (arith, to_floor, floors)

  module _ (value : ℕ) (asked : value ≡ slice_index table (lane.first + k) + (link_at lane k).gap - (task_at graph lane.to.0).wcet)
      (less : value < slice_index table (link_at lane k).from) where
    lowered_above : (other : Family) → AreDeadlines graph other → (i : ℕ) (m : ℤ) → i < length graph.tasks →
        other i m ≤ℤ dates_of graph (set table (link_at lane k).from value) i m
    lowered_above other of i m task =
        elim (set_index table (link_at lane k).from (index_of graph i m) value from_inside) [
          | inl here ↦
              (let s = first_link.index in
              let one = one_index graph i lane.from.0 (place_in m (jobs_of graph i)) (place_in (is.links k (let l = is.long in omega (arith, l, inside))).0 (jobs_of graph lane.from.0))
              (place_below (jobs_of graph i) (some_jobs graph good i task) m) place_inside (here.0 ∙ sym s) in
              let at : index_of graph lane.from.0 m ≡ (link_at lane k).from =
              subst (λ (x : ℕ). index_of graph x m ≡ (link_at lane k).from) one.0 here.0 in
              let found = link_from graph good lane is k below m at in
              let link : IsLink graph lane k found.0 m = found.1 in
              let p = link_precedes graph good lane k found.0 m link in
              let up = are.above other of lane.to.0 found.0 is.to in
              let q : index_of graph lane.to.0 found.0 ≡ lane.first + k =
              ap (λ (x : ℕ). jobs_before graph lane.to.0 + x) link.place ∙ ap (λ (x : ℕ). x + k) (sym is.first) in
              let v : slice_index table (index_of graph lane.to.0 found.0) ≡ slice_index table (lane.first + k) = ap (λ (x : ℕ). slice_index table x) q in
              let w : slice_index (set table (link_at lane k).from value) (index_of graph i m) ≡ value = here.1 in
              let o : other i m ≡ other lane.from.0 m = ap (λ (x : ℕ). other x m) one.0 in
              let t : release_of (task_at graph i) m ≡ release_of (task_at graph lane.from.0) m = ap (λ (x : ℕ). release_of (task_at graph x) m) one.0 in
              omega (arith, ints, of.along (record { task = lane.from.0; number = m }) (record { task = lane.to.0; number = found.0 }) p, up, v, link.gap, room, w, o, t, asked))
          | inr there ↦ (let a = are.above other of i m task in let e = there.1 in omega (arith, ints, a, e))
        ]

    pub lowered : AreUpperDates graph floor (set table (link_at lane k).from value)
    lowered = record {
      long = length-set table (link_at lane k).from value ∙ are.long;
      floors = λ i p task job.
          elim (set_index table (link_at lane k).from (jobs_before graph i + p) value from_inside) [
            | inl here ↦
                omega (arith, ap (λ (x : ℕ). slice_index floor x) here.0, here.1, to_floor, floors, asked)
            | inr there ↦ omega (arith, are.floors i p task job, there.1)
          ];
      due = λ i p task job.
          elim (set_index table (link_at lane k).from (jobs_before graph i + p) value from_inside) [
            | inl here ↦
                omega (arith, are.due i p task job, ap (λ (x : ℕ). slice_index table x) here.0, here.1, less)
            | inr there ↦ omega (arith, are.due i p task job, there.1)
          ];
      above = lowered_above;
    }

    pub sum_less : sum (set table (link_at lane k).from value) < sum table
    sum_less = omega (arith, sum_by-set (λ (x : ℕ). x) table (link_at lane k).from value 0 from_inside, less)

    -- links that left time still do, but for those to the job that fell
    module _ (before after : List ℕ) (pushed : after ≡ before ++ (link_at lane k).from ∷ []) where
      here_listed : IsListed after (link_at lane k).from
      here_listed = (length before, subst (λ (xs : List ℕ). slice_get xs (length before) ≡ Some (link_at lane k).from) (sym pushed) (push_new before (link_at lane k).from))

      pub fell_keeps : (other : Lane) (j : ℕ) → Leaves other (task_at graph other.to.0).wcet table table j → HoldsAt graph other (set table (link_at lane k).from value) after j
      fell_keeps other j leaves =
          elim (set_index table (link_at lane k).from (other.first + j) value from_inside) [
            | inl here ↦ inl (subst (λ (q : ℕ). IsListed after q) (sym here.0) here_listed)
            | inr there ↦
                elim (set_index table (link_at lane k).from (link_at other j).from value from_inside) [
                  | inl at ↦ inr (omega (arith, at.1, there.1, leaves, less, ap (λ (q : ℕ). slice_index table q) at.0))
                  | inr apart ↦ inr (omega (arith, apart.1, there.1, leaves))
                ]
          ]

      pub fell_lowered : AreLowered graph table (set table (link_at lane k).from value) before after
      fell_lowered = record {
        keeps = fell_keeps;
        grows = λ q at. subst (λ (xs : List ℕ). IsListed xs q) (sym pushed) (listed_more before (link_at lane k).from q at);
        less = inr sum_less;
      }

      pub fell_holds : HoldsAt graph lane (set table (link_at lane k).from value) after k
      fell_holds =
          elim (set_index table (link_at lane k).from (lane.first + k) value from_inside) [
            | inl here ↦ inl (subst (λ (q : ℕ). IsListed after q) (sym here.0) here_listed)
            | inr there ↦
                elim (set_index table (link_at lane k).from (link_at lane k).from value from_inside) [
                  | inl at ↦ inr (omega (arith, at.1, there.1, asked, room))
                  | inr apart ↦ absurd (apart.0 refl)
                ]
          ]

module _ (graph : TaskGraph) where
  pub lowered_none : (table list : List ℕ) → AreLowered graph table table list list
  lowered_none table list = record { keeps = λ lane k leaves. inr leaves; grows = λ q at. at; less = inl (refl, refl) }

  -- what holds still does
  pub holds_still : (lane : Lane) (k : ℕ) (old new before after : List ℕ) → AreLowered graph old new before after → HoldsAt graph lane old before k → HoldsAt graph lane new after k
  holds_still lane k old new before after lower (inl at) = inl (lower.grows (lane.first + k) at)
  holds_still lane k old new before after lower (inr leaves) = lower.keeps lane k leaves

  pub lowered_both : (old mid new first second third : List ℕ) → AreLowered graph old mid first second → AreLowered graph mid new second third → AreLowered graph old new first third
  lowered_both old mid new first second third a b = record {
    keeps = λ lane k leaves. holds_still lane k mid new second third b (a.keeps lane k leaves);
    grows = λ q at. b.grows q (a.grows q at);
    less = both a.less b.less;
  }
    where
      both : ((mid ≡ old) × (second ≡ first)) ⊎ (sum mid < sum old) → ((new ≡ mid) × (third ≡ second)) ⊎ (sum new < sum mid) → ((new ≡ old) × (third ≡ first)) ⊎ (sum new < sum old)
      both (inl x) (inl y) = inl (y.0 ∙ x.0, y.1 ∙ x.1)
      both (inl x) (inr y) = inr (let e = ap (λ (xs : List ℕ). sum xs) x.0 in omega (arith, e, y))
      both (inr x) (inl y) = inr (let e = ap (λ (xs : List ℕ). sum xs) y.0 in omega (arith, e, x))
      both (inr x) (inr y) = inr (omega (arith, x, y))

  module _ (lanes : List Lane) where
    -- one lane more
    pub hold_more : (l : ℕ) (lane : Lane) → slice_get lanes l ≡ Some lane → (job : ℕ) (old new before after : List ℕ) → HoldAt graph lanes l job old before → AreLowered graph old new before after →
        ((k : ℕ) → k < length lane.links → lane.first + k ≡ job → HoldsAt graph lane new after k) → HoldAt graph lanes (l + 1) job new after
    hold_more l lane stands job old new before after hold lower here =
        lane_more (λ (x : Lane). (k : ℕ) → k < length x.links → x.first + k ≡ job → HoldsAt graph x new after k) lanes l lane stands
        (λ j other less at k inside to. holds_still other k old new before after lower (hold j other less at k inside to)) here

    -- what holds of the links to a job, over the first lanes
    pub record LoweredSoFar (floor : List ℕ) (l job : ℕ) (old before table fell : List ℕ) : Type 0 where
      pub dates : AreUpperDates graph floor table
      pub lowered : AreLowered graph old table before fell
      pub hold : HoldAt graph lanes l job table fell

    pub so_far_more : (floor : List ℕ) (l job : ℕ) (old before table fell : List ℕ) → LoweredSoFar floor l job old before table fell → (lane : Lane) → slice_get lanes l ≡ Some lane →
        (later after : List ℕ) → AreUpperDates graph floor later → AreLowered graph table later fell after →
        ((k : ℕ) → k < length lane.links → lane.first + k ≡ job → HoldsAt graph lane later after k) → LoweredSoFar floor (l + 1) job old before later after
    so_far_more floor l job old before table fell so_far lane stands later after dates lower here = record {
      dates = dates;
      lowered = lowered_both old table later before fell after so_far.lowered lower;
      hold = hold_more l lane stands job table later fell after so_far.hold lower here;
    }

    -- links to jobs of the list from its place `count` on are open
    pub record HoldFrom (list : List ℕ) (count : ℕ) (table fell : List ℕ) : Type 0 where
      pub each : (l : ℕ) (lane : Lane) → slice_get lanes l ≡ Some lane → (k : ℕ) → k < length lane.links →
          ((x : ℕ) × (count ≤ x) × (slice_get list x ≡ Some (lane.first + k))) ⊎ HoldsAt graph lane table fell k

    pub hold_begins : (list table : List ℕ) → HoldAll graph lanes table list → HoldFrom list 0 table []
    hold_begins list table hold = record {
      each = λ l lane stands k inside.
          elim (hold l lane stands k inside) [
            | inl at ↦ inl (at.0, omega arith, at.1)
            | inr leaves ↦ inr (inr leaves)
          ];
    }

    pub hold_next : (list : List ℕ) (count job : ℕ) → slice_get list count ≡ Some job → (old new before after : List ℕ) → HoldFrom list count old before → AreLowered graph old new before after →
        HoldAt graph lanes (length lanes) job new after → HoldFrom list (count + 1) new after
    hold_next list count job at old new before after hold lower here = record {
      each = λ l lane stands k inside.
          elim (hold.each l lane stands k inside) [
            | inr holds ↦ inr (holds_still lane k old new before after lower holds)
            | inl listed ↦
                elim (cases_lt count listed.0) [
                  | inl less ↦ inl (listed.0, omega (arith, less), listed.2)
                  | inr above ↦
                      (let e : listed.0 ≡ count = omega (arith, above, listed.1) in
                      let same : lane.first + k ≡ job = same_Some _ _ (sym (subst (λ (x : ℕ). slice_get list x ≡ Some (lane.first + k)) e listed.2) ∙ at) in
                      inr (here l lane (slice_get_within lanes l lane stands) stands k inside same))
                ]
          ];
    }

    pub hold_ends : (list : List ℕ) (count : ℕ) (table fell : List ℕ) → HoldFrom list count table fell → length list ≤ count → HoldAll graph lanes table fell
    hold_ends list count table fell hold all l lane stands k inside =
        elim (hold.each l lane stands k inside) [
          | inr holds ↦ holds
          | inl listed ↦ absurd (let b = slice_get_within list listed.0 (lane.first + k) listed.2 in omega (arith, b, listed.1, all))
        ]

    -- where no job is listed all links leave time
    pub hold_none : (table fell : List ℕ) → HoldAll graph lanes table fell → length fell ≡ 0 → LeaveAll graph lanes (length lanes) table
    hold_none table fell hold none l lane less stands k inside =
        elim (hold l lane stands k inside) [
          | inr leaves ↦ leaves
          | inl at ↦ absurd (let b = slice_get_within fell at.0 (lane.first + k) at.1 in omega (arith, b, none))
        ]

    pub hold_all : IsWellFormed graph → AreEachLane graph lanes → (table list : List ℕ) → ((q : ℕ) → q < jobs_in_hyperperiod graph → IsListed list q) → HoldAll graph lanes table list
    hold_all good are table list all l lane stands k inside = inl (all (lane.first + k) (omega (arith, links_to graph good lane (are l lane stands), inside)))

-- where some job fell the sum is less
pub lowered_less : (graph : TaskGraph) (old new after : List ℕ) → AreLowered graph old new [] after → 1 ≤ length after → sum new < sum old
lowered_less graph old new after lower some =
    elim lower.less [
      | inl same ↦ absurd (let e = ap (λ (xs : List ℕ). length xs) same.1 in omega (arith, e, some))
      | inr less ↦ less
    ]
