-- Each well-formed graph has encoded dates, or a fault.
use Rattle.prl_base.proofs.Standard.{◌≡◌, ◌+◌, ◌-◌, ◌<◌, ◌≤◌, ◌⊎◌, ◌++◌, ℕ, zero, suc, List, [], ◌∷◌, length, replicate, take, sum, Some, inl, inr, refl, sym, ◌∙◌, ap, subst, arith, Option, None, pos}
use Rattle.prl_base.proofs.Standard.{slice_get, slice_index, cases_eq, cases_lt, length_push, get_or_push, get_or_append_left, same_Some, slice_get_within}
use Rattle.std.proofs.Math.ListN.{set}
use Rattle.std.proofs.lemmas.List.{length-set}
use Rattle.prl_base.specs.declared.numbers.TaskNo.{TaskNo}
use Rattle.prl_plan.specs.Vocabulary.{AreEncodedDates, no_window, IsWellFormed, jobs_in_hyperperiod, task_at, deadline_of, HaveRoom, AreShortWindows}
use Rattle.prl_plan.specs.declared.graphs.TaskGraph.{TaskGraph}
use Rattle.prl_plan.specs.declared.tables.Window.{Window}
use Rattle.prl_plan.proofs.Searches.{IsLeastSuch, all_or_least, listed, listed_long, listed_or, places_tell}
use Rattle.prl_plan.proofs.ShortestRepeats.{some_repeat}
use Rattle.prl_dates.specs.Vocabulary.{First, DateFault, Lane, jobs_of, IsOfPeriod, IsDateFault, IsOfGraph, AreBests, jobs_before, dates_of, link_at, IsLane, AreLanes, Leaves, Meets, AreRaised}
use Rattle.prl_dates.specs.Vocabulary.{AreRound, first_of, IsFirstTable, IsNowhereAbove, IsFirstAbove, AreFinal, LeaveAll, AreUpperDates, window_of, AreWindowsOf, AreWindows}
use Rattle.prl_dates.specs.declared.bests.First.TheVariants as firsts
use Rattle.prl_dates.specs.declared.faults.DateFault.TheVariants as faults
use Rattle.prl_dates.proofs.BestRounds.{next_bests}
use Rattle.prl_dates.proofs.DateTables.{first_dates, floors_leave, dates_made, room_made, short_made, cut_made}
use Rattle.prl_dates.proofs.FirstTables.{first_more, first_none}
use Rattle.prl_dates.proofs.Indices.{before_all, some_jobs}
use Rattle.prl_dates.proofs.Lowering.{room, lowered, sum_less}
use Rattle.prl_dates.proofs.Pushes.{set_index}
use Rattle.prl_dates.proofs.RoundSteps.{round_more, round_begins, links_to}
use Rattle.prl_dates.proofs.Settles.{first_bests, late_fault, within_dues, loop_fault, round_still}
use Rattle.prl_dates.proofs.SomeLanes.{lanes_exist}
use Rattle.prl_dates.proofs.TableRounds.{round_of_tables}

pub some_first : (graph : TaskGraph) (first : First) (count : ℕ) → (table : List ℕ) × IsFirstTable graph first count table
some_first graph first zero = ([], first_none graph first)
some_first graph first (suc k) =
    let before = some_first graph first k in
    let next : k + 1 ≡ suc k = omega arith in (
      before.0 ++ replicate (jobs_of graph k) (first_of graph first k),
      subst (λ (n : ℕ). IsFirstTable graph first n (before.0 ++ replicate (jobs_of graph k) (first_of graph first k))) next
          (first_more graph first k before.0 (first_of graph first k) before.1 refl),
    )

-- one link more of a lane asks for its date
module _ (lane : Lane) (wcet : ℕ) (now old : List ℕ) (k : ℕ) (new : List ℕ) (inside : lane.first + k < length new) (are : AreRaised lane wcet k now old new) where
  asked : ℕ
  asked = slice_index now (link_at lane k).from + wcet - (link_at lane k).gap

  kept_raised : slice_index now (link_at lane k).from + wcet ≤ slice_index new (lane.first + k) + (link_at lane k).gap → AreRaised lane wcet (k + 1) now old new
  kept_raised leaves = record {
    long = are.long;
    up = are.up;
    asks = λ j below. elim (cases_lt j k) [
      | inl less ↦ are.asks j less
      | inr here ↦ (let same : k ≡ j = omega (arith, below, here) in subst (λ (x : ℕ). Leaves lane wcet now new x) same leaves)
    ];
    only = λ q. elim (are.only q) [
      | inl same ↦ inl same
      | inr by ↦ inr (by.0, omega (arith, by.1), by.2, by.3)
    ];
  }

  set_raised : slice_index new (lane.first + k) + (link_at lane k).gap < slice_index now (link_at lane k).from + wcet →
      AreRaised lane wcet (k + 1) now old (set new (lane.first + k) (slice_index now (link_at lane k).from + wcet - (link_at lane k).gap))
  set_raised more =
      let later : List ℕ = set new (lane.first + k) (slice_index now (link_at lane k).from + wcet - (link_at lane k).gap) in
      let higher : (q : ℕ) → slice_index new q ≤ slice_index (set new (lane.first + k) (slice_index now (link_at lane k).from + wcet - (link_at lane k).gap)) q =
      λ q. elim (set_index new (lane.first + k) q (slice_index now (link_at lane k).from + wcet - (link_at lane k).gap) inside) [
        | inl here ↦ (let e : slice_index new q ≡ slice_index new (lane.first + k) = ap (λ (x : ℕ). slice_index new x) here.0 in let v = here.1 in omega (arith, e, v, more))
        | inr there ↦ (let v = there.1 in omega (arith, v))
      ] in
      let written : slice_index (set new (lane.first + k) (slice_index now (link_at lane k).from + wcet - (link_at lane k).gap)) (lane.first + k)
      ≡ slice_index now (link_at lane k).from + wcet - (link_at lane k).gap =
      elim (set_index new (lane.first + k) (lane.first + k) (slice_index now (link_at lane k).from + wcet - (link_at lane k).gap) inside) [
        | inl here ↦ here.1
        | inr there ↦ absurd (there.0 refl)
      ] in
      record {
        long = length-set new (lane.first + k) (slice_index now (link_at lane k).from + wcet - (link_at lane k).gap) ∙ are.long;
        up = λ q. (let a = are.up q in let b = higher q in omega (arith, a, b));
        asks = λ j below. elim (cases_lt j k) [
          | inl less ↦ (let a = are.asks j less in let b = higher (lane.first + j) in omega (arith, a, b))
          | inr here ↦
              (let same : k ≡ j = omega (arith, below, here) in
              subst (λ (x : ℕ). Leaves lane wcet now later x) same (omega (arith, written, more)))
        ];
        only = λ q. elim (set_index new (lane.first + k) q (slice_index now (link_at lane k).from + wcet - (link_at lane k).gap) inside) [
          | inl here ↦ inr (k, omega arith, here.0, omega (arith, written, more))
          | inr there ↦ elim (are.only q) [
            | inl same ↦ inl (there.1 ∙ same)
            | inr by ↦ inr (
              by.0,
              (let less = by.1 in omega (arith, less)),
              by.2,
              (let meets : Meets lane wcet now new by.0 = by.3 in
                  let e : slice_index later (lane.first + by.0) ≡ slice_index new (lane.first + by.0) = subst (λ (x : ℕ). slice_index later x ≡ slice_index new x) by.2 there.1 in
                  omega (arith, meets, e)),
            )
          ]
        ];
      }

-- the first links of a lane ask for their dates
pub some_raised : (lane : Lane) (wcet : ℕ) (now old : List ℕ) → lane.first + length lane.links ≤ length old → (count : ℕ) → count ≤ length lane.links →
    (new : List ℕ) × AreRaised lane wcet count now old new
some_raised lane wcet now old fits zero within = (
  old,
  record {
    long = refl;
    up = λ q. omega arith;
    asks = λ j below. absurd (omega (arith, below));
    only = λ q. inl refl;
  },
)
some_raised lane wcet now old fits (suc k) within =
    let before = some_raised lane wcet now old fits k (omega (arith, within)) in
    let inside : lane.first + k < length before.0 = omega (arith, before.1.long, fits, within) in
    let next : k + 1 ≡ suc k = omega arith in
    elim (cases_lt (slice_index before.0 (lane.first + k) + (link_at lane k).gap) (slice_index now (link_at lane k).from + wcet)) [
      | inl more ↦ (
        set before.0 (lane.first + k) (slice_index now (link_at lane k).from + wcet - (link_at lane k).gap),
        subst (λ (n : ℕ). AreRaised lane wcet n now old (set before.0 (lane.first + k) (slice_index now (link_at lane k).from + wcet - (link_at lane k).gap))) next
            (set_raised lane wcet now old k before.0 inside before.1 more),
      )
      | inr leaves ↦ (before.0, subst (λ (n : ℕ). AreRaised lane wcet n now old before.0) next (kept_raised lane wcet now old k before.0 inside before.1 leaves))
    ]

-- a lane in a list
pub lane_here : (lanes : List Lane) (l : ℕ) → l < length lanes → (lane : Lane) × (slice_get lanes l ≡ Some lane)
lane_here [] l below = absurd (omega (arith, below))
lane_here (lane ∷ lanes) zero below = (lane, refl)
lane_here (lane ∷ lanes) (suc l) below = lane_here lanes l (omega (arith, below))

module _ (graph : TaskGraph) (good : IsWellFormed graph) where
  -- a round over the first lanes
  pub some_round : (lanes : List Lane) → ((l : ℕ) (lane : Lane) → slice_get lanes l ≡ Some lane → IsLane graph lane) → (now : List ℕ) → length now ≡ jobs_in_hyperperiod graph →
      (count : ℕ) → count ≤ length lanes → (new : List ℕ) × AreRound graph lanes count now new
  some_round lanes are now long zero within = (now, round_begins graph lanes now)
  some_round lanes are now long (suc l) within =
      let before = some_round lanes are now long l (omega (arith, within)) in
      let here = lane_here lanes l (omega (arith, within)) in
      let fits = links_to graph good here.0 (are l here.0 here.1) in
      let raised = some_raised here.0 (task_at graph here.0.to.0).wcet now before.0 (let b = before.1.long in omega (arith, fits, b, long)) (length here.0.links) (omega arith) in
      let next : l + 1 ≡ suc l = omega arith in
      (raised.0, subst (λ (n : ℕ). AreRound graph lanes n now raised.0) next (round_more graph lanes l here.0 here.1 now before.0 before.1 raised.0 raised.1))

  -- the lowest job at which the one table is above the other
  abbrev NotAbove : List ℕ → List ℕ → ℕ → ℕ → Type 0
  NotAbove high low i p = slice_index high (jobs_before graph i + p) ≤ slice_index low (jobs_before graph i + p)

  abbrev Above : List ℕ → List ℕ → ℕ → ℕ → Type 0
  Above high low i p = slice_index low (jobs_before graph i + p) < slice_index high (jobs_before graph i + p)

  not_or_above : (high low : List ℕ) (i p : ℕ) → NotAbove high low i p ⊎ Above high low i p
  not_or_above high low i p = elim (cases_lt (slice_index low (jobs_before graph i + p)) (slice_index high (jobs_before graph i + p))) [ inl above ↦ inr above | inr not ↦ inl not ]

  abbrev TaskNotAbove : List ℕ → List ℕ → ℕ → Type 0
  TaskNotAbove high low i = (p : ℕ) → p < jobs_of graph i → NotAbove high low i p

  abbrev TaskAbove : List ℕ → List ℕ → ℕ → Type 0
  TaskAbove high low i = (p : ℕ) × IsLeastSuch (NotAbove high low i) (Above high low i) (jobs_of graph i) p

  first_above : (high low : List ℕ) → IsNowhereAbove graph (length graph.tasks) high low ⊎ ((i : ℕ) × (n : ℕ) × IsFirstAbove graph high low i n)
  first_above high low =
      elim (all_or_least (TaskNotAbove high low) (TaskAbove high low) (λ i. all_or_least (NotAbove high low i) (Above high low i) (not_or_above high low i) (jobs_of graph i)) (length graph.tasks)) [
        | inl all ↦ inl (λ i p inside below. all i inside p below)
        | inr least ↦ inr (
          least.0,
          least.1.is.0,
          record {
            of_period = (least.1.below, least.1.is.1.below);
            above = least.1.is.1.is;
            none_lower = λ j p of above. lower least.0 least.1.is.0 least.1.earlier least.1.is.1.earlier j p of above;
          },
        )
      ]
    where
      lower : (i n : ℕ) → ((j : ℕ) → j < i → TaskNotAbove high low j) → ((q : ℕ) → q < n → NotAbove high low i q) → (j p : ℕ) → IsOfPeriod graph j p → Above high low j p →
          (i < j) ⊎ ((i ≡ j) × (n ≤ p))
      lower i n tasks jobs j p of above = elim (cases_lt i j) [
        | inl less ↦ inl less
        | inr not ↦ elim (cases_lt j i) [
          | inl earlier ↦ absurd (let under = tasks j earlier p of.1 in omega (arith, under, above))
          | inr under ↦
              (let same : j ≡ i = omega (arith, not, under) in
              let here : Above high low i p = subst (λ (x : ℕ). Above high low x p) same above in
              inr (
                sym same,
                elim (cases_lt p n) [
                  | inl before ↦ absurd (let low = jobs p before in omega (arith, low, here))
                  | inr after ↦ after
                ],
              ))
        ]
      ]

  module _ (lanes : List Lane) (are : AreLanes graph lanes) where
    -- the bests over chains of at most so many jobs and one more
    record HasBests (rounds : ℕ) : Type 0 where
      table : List ℕ
      long : length table ≡ jobs_in_hyperperiod graph
      bests : AreBests graph rounds (dates_of graph table)

    some_bests : (rounds : ℕ) → HasBests rounds
    some_bests zero =
        let first = some_first graph firsts.Wcet (length graph.tasks) in
        record { table = first.0; long = first.1.long ∙ before_all graph; bests = first_bests graph good first.0 first.1 }
    some_bests (suc rounds) =
        let before = some_bests rounds in
        let round = some_round lanes are.each before.table before.long (length lanes) (omega arith) in
        let next : rounds + 1 ≡ suc rounds = omega arith in
        record {
          table = round.0;
          long = round.1.long ∙ before.long;
          bests = subst (λ (n : ℕ). AreBests graph n (dates_of graph round.0)) next
              (next_bests graph good rounds (dates_of graph before.table) (dates_of graph round.0) before.bests
              (round_of_tables graph good lanes are before.table round.0 round.1 before.bests.rises));
        }

    abbrev FinalOrFault : Type 0
    FinalOrFault = ((table : List ℕ) × AreFinal graph lanes table) ⊎ ((fault : DateFault) × IsOfGraph fault × IsDateFault graph fault)

    final_or_fault : FinalOrFault
    final_or_fault =
        let now = some_bests (jobs_in_hyperperiod graph - 1) in
        let dues = some_first graph firsts.Due (length graph.tasks) in
        elim (first_above now.table dues.0) [
          | inr late ↦
              (let task : TaskNo = record { 0 = late.0 } in
              inr (
                faults.Narrow task (pos late.1) (dates_of graph now.table late.0 (pos late.1)) (deadline_of (task_at graph late.0) (pos late.1)),
                tt,
                late_fault graph good (jobs_in_hyperperiod graph - 1) refl now.table now.bests dues.0 dues.1 task late.1 late.2,
              ))
          | inl below ↦
              (let next = some_round lanes are.each now.table now.long (length lanes) (omega arith) in
              elim (first_above next.0 now.table) [
                | inr loop ↦
                    (let task : TaskNo = record { 0 = loop.0 } in
                    inr (
                      faults.Loop task (pos loop.1),
                      tt,
                      loop_fault graph good (jobs_in_hyperperiod graph - 1) refl now.table now.bests dues.0 dues.1 lanes are next.0 next.1 below task loop.1 loop.2,
                    ))
                | inl still ↦ inl (
                  now.table,
                  record {
                    rounds = jobs_in_hyperperiod graph - 1;
                    bests = now.bests;
                    still = round_still graph good (jobs_in_hyperperiod graph - 1) refl now.table now.bests dues.0 dues.1 lanes are next.0 next.1 still;
                    long = now.long;
                    due = within_dues graph good (jobs_in_hyperperiod graph - 1) refl now.table now.bests dues.0 dues.1 below;
                  },
                )
              ])
        ]

    -- deadlines lowered until no link asks for an earlier one
    module _ (floor : List ℕ) (floors : LeaveAll graph lanes (length lanes) floor) where
      record Asks (table : List ℕ) (l : ℕ) : Type 0 where
        lane : Lane
        stands : slice_get lanes l ≡ Some lane
        k : ℕ
        inside : k < length lane.links
        asks : slice_index table (lane.first + k) + (link_at lane k).gap < slice_index table (link_at lane k).from + (task_at graph lane.to.0).wcet

      abbrev LaneLeaves : List ℕ → ℕ → Type 0
      LaneLeaves table l = (lane : Lane) → slice_get lanes l ≡ Some lane → (k : ℕ) → k < length lane.links → Leaves lane (task_at graph lane.to.0).wcet table table k

      leaves_or_asks : (table : List ℕ) (l : ℕ) → LaneLeaves table l ⊎ Asks table l
      leaves_or_asks table l = go (slice_get lanes l) refl
        where
          by_link : (lane : Lane) (k : ℕ) → Leaves lane (task_at graph lane.to.0).wcet table table k
              ⊎ (slice_index table (lane.first + k) + (link_at lane k).gap < slice_index table (link_at lane k).from + (task_at graph lane.to.0).wcet)
          by_link lane k =
              elim (cases_lt (slice_index table (lane.first + k) + (link_at lane k).gap) (slice_index table (link_at lane k).from + (task_at graph lane.to.0).wcet)) [
                | inl asks ↦ inr asks
                | inr leaves ↦ inl leaves
              ]

          go : (found : Option Lane) → slice_get lanes l ≡ found → LaneLeaves table l ⊎ Asks table l
          go None at = inl (λ lane stands. absurd (let e : None ≡ Some lane = sym at ∙ stands in cc))
          go (Some lane) at =
              elim (all_or_least (Leaves lane (task_at graph lane.to.0).wcet table table)
              (λ k. slice_index table (lane.first + k) + (link_at lane k).gap < slice_index table (link_at lane k).from + (task_at graph lane.to.0).wcet) (by_link lane) (length lane.links)) [
                | inl all ↦ inl (λ other stands. subst (λ (x : Lane). (k : ℕ) → k < length x.links → Leaves x (task_at graph x.to.0).wcet table table k)
                    (same_Some lane other (sym at ∙ stands)) all)
                | inr least ↦ inr (record { lane = lane; stands = at; k = least.0; inside = least.1.below; asks = least.1.is })
              ]

      -- no link asks for an earlier deadline, or one is lowered
      one_lowered : (table : List ℕ) → AreUpperDates graph floor table →
          LeaveAll graph lanes (length lanes) table ⊎ ((tails : List ℕ) × AreUpperDates graph floor tails × (sum tails < sum table))
      one_lowered table upper = elim (all_or_least (LaneLeaves table) (Asks table) (leaves_or_asks table) (length lanes)) [
        | inl all ↦ inl (λ l lane below stands k inside. all l below lane stands k inside)
        | inr least ↦
            (let at : Asks table least.0 = least.1.is in
            let is = are.each least.0 at.lane at.stands in
            let leaves = floors least.0 at.lane (slice_get_within lanes least.0 at.lane at.stands) at.stands at.k at.inside in
            let value : ℕ = slice_index table (at.lane.first + at.k) + (link_at at.lane at.k).gap - (task_at graph at.lane.to.0).wcet in
            let less : slice_index table (at.lane.first + at.k) + (link_at at.lane at.k).gap - (task_at graph at.lane.to.0).wcet < slice_index table (link_at at.lane at.k).from =
            omega (arith, at.asks, room graph good floor table upper at.lane is at.k at.inside leaves) in
            inr (
              set table (link_at at.lane at.k).from value,
              lowered graph good floor table upper at.lane is at.k at.inside leaves value refl less,
              sum_less graph good floor table upper at.lane is at.k at.inside leaves value refl less,
            ))
      ]

      pub some_lowered : (most : ℕ) (table : List ℕ) → sum table ≤ most → AreUpperDates graph floor table →
          (tails : List ℕ) × AreUpperDates graph floor tails × LeaveAll graph lanes (length lanes) tails
      some_lowered zero table small upper = elim (one_lowered table upper) [
        | inl leaves ↦ (table, upper, leaves)
        | inr less ↦ absurd (omega (arith, small, less.2))
      ]
      some_lowered (suc most) table small upper = elim (one_lowered table upper) [
        | inl leaves ↦ (table, upper, leaves)
        | inr less ↦ some_lowered most less.0 (omega (arith, small, less.2)) less.1
      ]

  -- windows can be told apart
  windows_tell : (a b : Window) → (a ≡ b) ⊎ (a ≡ b → ⊥)
  windows_tell a b = elim (cases_eq a.lead b.lead) [
    | inr apart ↦ inr (λ same. apart (ap (λ (w : Window). w.lead) same))
    | inl lead ↦ elim (cases_eq a.tail b.tail) [
      | inr apart ↦ inr (λ same. apart (ap (λ (w : Window). w.tail) same))
      | inl tail ↦ inl (
          ap (λ (x : ℕ). (let w : Window = record { lead = x; tail = a.tail } in w)) lead
          ∙ ap (λ (x : ℕ). (let w : Window = record { lead = b.lead; tail = x } in w)) tail
          )
    ]
  ]

  module _ (bests tails : List ℕ) where
    task_windows : (i : ℕ) → i < length graph.tasks → (list : List Window) × AreWindowsOf graph bests tails i list
    task_windows i inside =
        let all : List Window = listed (λ p. window_of graph i bests tails (jobs_before graph i + p)) (jobs_of graph i) in
        let long : length all ≡ jobs_of graph i = listed_long (λ p. window_of graph i bests tails (jobs_before graph i + p)) (jobs_of graph i) in
        let step = some_repeat all (places_tell windows_tell all) (omega (arith, some_jobs graph good i inside, long)) in (
          take step.0 all,
          cut_made graph good bests tails i inside all long
              (λ p below. listed_or (λ q. window_of graph i bests tails (jobs_before graph i + q)) (jobs_of graph i) p no_window below) step.0 step.1,
        )

    pub some_windows : (count : ℕ) → count ≤ length graph.tasks → (windows : List (List Window)) × AreWindows graph bests tails count windows
    some_windows zero within = ([], record { long = refl; each = λ i below. absurd (omega (arith, below)) })
    some_windows (suc count) within =
        let before = some_windows count (omega (arith, within)) in
        let last = task_windows count (omega (arith, within)) in (
          before.0 ++ last.0 ∷ [],
          record {
            long = omega (arith, length_push before.0 last.0, before.1.long);
            each = λ i below. elim (cases_lt i count) [
              | inl old ↦
                  rw (get_or_append_left before.0 (last.0 ∷ []) [] i (omega (arith, old, before.1.long))) (before.1.each i old)
              | inr here ↦
                  (let same : count ≡ i = omega (arith, below, here) in
                  rw (get_or_push before.0 last.0 [] i (before.1.long ∙ same)) (subst (λ (x : ℕ). AreWindowsOf graph bests tails x last.0) same last.1))
            ];
          },
        )

  pub dates_or_fault : ((windows : List (List Window)) × AreEncodedDates graph windows × HaveRoom graph windows × AreShortWindows windows)
      ⊎ ((fault : DateFault) × IsOfGraph fault × IsDateFault graph fault)
  dates_or_fault =
      let lanes = lanes_exist graph good in
      elim (final_or_fault lanes.0 lanes.1) [
        | inr fault ↦ inr fault
        | inl final ↦
            (let dues = some_first graph firsts.Due (length graph.tasks) in
            let upper = first_dates graph good lanes.0 lanes.1 final.0 final.1 dues.0 dues.1 (dues.1.long ∙ before_all graph) in
            let low = some_lowered lanes.0 lanes.1 final.0 (floors_leave graph good lanes.0 lanes.1 final.0 final.1) (sum dues.0) dues.0 (omega arith) upper in
            let windows = some_windows final.0 low.0 (length graph.tasks) (omega arith) in
            inl (
              windows.0,
              dates_made graph good lanes.0 lanes.1 final.0 final.1 low.0 low.1 low.2 windows.0 windows.1,
              room_made graph good lanes.0 lanes.1 final.0 final.1 low.0 low.1 low.2 windows.0 windows.1,
              short_made graph good lanes.0 lanes.1 final.0 final.1 low.0 low.1 low.2 windows.0 windows.1,
            ))
      ]
