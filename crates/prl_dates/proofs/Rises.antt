-- Links that ask one by one, the indices that rise, and what is settled then.
use Rattle.prl_base.proofs.Standard.{◌≡◌, ◌≢◌, ◌+◌, ◌-◌, ◌<◌, ◌≤◌, ◌++◌, ◌⊎◌, ℕ, List, [], ◌∷◌, length, set, get_or, Some, inl, inr, refl, sym, ◌∙◌, ap, subst, arith, slice_get, slice_index, cases_lt, length-set}
use Rattle.prl_base.proofs.Standard.{slice_get_within, same_Some, ext_get_or, get_or_from_slice_get}
use Rattle.prl_plan.specs.Vocabulary.{IsWellFormed, task_at, jobs_in_hyperperiod}
use Rattle.prl_plan.specs.declared.graphs.TaskGraph.{TaskGraph}
use Rattle.prl_dates.specs.Vocabulary.{Exit, Lane, Link, IsLane, IsLinkInside, no_link, link_at, AreEachLane, AreExitsPart, IsExit, exit_at, Leaves, Meets, AreRound, AreUnderWay, AreSettled, ListsRisen, IsListed, AreBelow}
use Rattle.prl_dates.proofs.FirstTables.{get_past}
use Rattle.prl_dates.proofs.Pushes.{set_index, push_get, push_new, listed_more}
use Rattle.prl_dates.proofs.RoundSteps.{links_from, links_to}

nothing : (x q : ℕ) → slice_get [] x ≡ Some q → ⊥
nothing x q at = (let b = slice_get_within [] x q at in omega (arith, b))

pub below_push : (list : List ℕ) (x bound : ℕ) → AreBelow list bound → x < bound → AreBelow (list ++ x ∷ []) bound
below_push list x bound below inside k q at =
    elim (push_get list x q k at) [
      | inl old ↦ below k q old
      | inr new ↦ (let e : x ≡ q = new.1 in omega (arith, inside, e))
    ]

-- a lane that is read, one of its links, and where the link leads
pub record IsHere (graph : TaskGraph) (lanes : List Lane) (l k : ℕ) (lane : Lane) (links : List Link) : Type 0 where
  pub stands : slice_get lanes l ≡ Some lane
  pub inside : k < length lane.links
  pub is : IsLane graph lane
  pub link : get_or links k no_link ≡ link_at lane k
  pub from : (get_or links k no_link).from < jobs_in_hyperperiod graph
  pub to : lane.first + k < jobs_in_hyperperiod graph

pub here_in : (graph : TaskGraph) → IsWellFormed graph → (lanes : List Lane) → AreEachLane graph lanes → (l k : ℕ) (lane : Lane) → slice_get lanes l ≡ Some lane → k < length lane.links →
    (links : List Link) → links ≡ lane.links → IsHere graph lanes l k lane links
here_in graph good lanes are l k lane stands inside links same =
    let is : IsLane graph lane = are l lane stands in
    let link : get_or links k no_link ≡ link_at lane k = ap (λ (ls : List Link). get_or ls k no_link) same in
    record {
      stands = stands;
      inside = inside;
      is = is;
      link = link;
      from = omega (arith, ap (λ (x : Link). x.from) link, links_from graph good lane is k inside);
      to = omega (arith, links_to graph good lane is, inside);
    }

pub here_is : (graph : TaskGraph) → IsWellFormed graph → (lanes : List Lane) → AreEachLane graph lanes → (l k : ℕ) → IsLinkInside lanes l k → (lane : Lane) → lane ≡ get_or lanes l lane →
    (links : List Link) → links ≡ lane.links → IsHere graph lanes l k lane links
here_is graph good lanes are l k at lane is links same =
    let one : lane ≡ at.0 = is ∙ get_or_from_slice_get lanes l at.0 lane at.1 in
    here_in graph good lanes are l k lane (at.1 ∙ ap (λ (x : Lane). Some x) (sym one)) (omega (arith, at.2, ap (λ (x : Lane). length x.links) one)) links same

module _ (graph : TaskGraph) (lanes : List Lane) where
  pub way_begins : (now : List ℕ) → AreUnderWay graph lanes now now []
  way_begins now = record {
    long = refl;
    up = λ q. omega arith;
    only = λ q. inl refl;
    lists = record { below = λ x q at. absurd (nothing x q at); rose = λ x q at. absurd (nothing x q at); each = λ q. inl refl };
  }

  -- one link raises the date that it leads to
  module _ (now next rises : List ℕ) (way : AreUnderWay graph lanes now next rises) (l : ℕ) (lane : Lane) (stands : slice_get lanes l ≡ Some lane) (k : ℕ) (inside : k < length lane.links)
      (job value : ℕ) (at : job ≡ lane.first + k) (in_table : job < length next)
      (asked : value ≡ slice_index now (link_at lane k).from + (task_at graph lane.to.0).wcet - (link_at lane k).gap) (higher : slice_index next job < value) where
    up_more : (q : ℕ) → slice_index next q ≤ slice_index (set next job value) q
    up_more q =
        elim (set_index next job q value in_table) [
          | inl here ↦ omega (arith, here.1, higher, ap (λ (x : ℕ). slice_index next x) here.0)
          | inr there ↦ omega (arith, there.1)
        ]

    pub way_up : (q : ℕ) → slice_index next q ≤ slice_index (set next job value) q
    way_up = up_more

    new_is : slice_index (set next job value) (lane.first + k) ≡ value
    new_is =
        elim (set_index next job (lane.first + k) value in_table) [
          | inl here ↦ here.1
          | inr there ↦ absurd (there.0 (sym at))
        ]

    pub way_asks : Leaves lane (task_at graph lane.to.0).wcet now (set next job value) k
    way_asks = omega (arith, new_is, asked)

    meets : Meets lane (task_at graph lane.to.0).wcet now (set next job value) k
    meets = omega (arith, new_is, asked, higher)

    still : (other : Lane) (j q : ℕ) → q ≡ other.first + j → q ≢ job → Meets other (task_at graph other.to.0).wcet now next j →
        Meets other (task_at graph other.to.0).wcet now (set next job value) j
    still other j q is apart m =
        elim (set_index next job (other.first + j) value in_table) [
          | inl here ↦ absurd (apart (is ∙ here.0))
          | inr there ↦ omega (arith, there.1, m)
        ]

    pub way_more : (later : List ℕ) → ListsRisen now (set next job value) later → AreUnderWay graph lanes now (set next job value) later
    way_more later lists = record {
      long = length-set next job value ∙ way.long;
      up = λ q. (let a = way.up q in let b = up_more q in omega (arith, a, b));
      only = λ q.
          elim (set_index next job q value in_table) [
            | inl here ↦ inr (l, lane, stands, k, inside, here.0 ∙ at, meets)
            | inr there ↦
                elim (way.only q) [
                  | inl same ↦ inl (there.1 ∙ same)
                  | inr by ↦ inr (by.0, by.1, by.2, by.3, by.4, by.5, still by.1 by.3 q by.5 there.0 by.6)
                ]
          ];
      lists = lists;
    }

    -- a job that rose before is listed, and another one is added
    rose_more : (q : ℕ) → (slice_index next q ≡ slice_index now q → ⊥) → slice_index (set next job value) q ≡ slice_index now q → ⊥
    rose_more q rose same =
        elim (set_index next job q value in_table) [
          | inl here ↦ omega (arith, here.1, same, higher, way.up job, ap (λ (x : ℕ). slice_index now x) here.0)
          | inr there ↦ rose (sym there.1 ∙ same)
        ]

    pub lists_kept : slice_index next job ≢ slice_index now job → ListsRisen now (set next job value) rises
    lists_kept rose = record {
      below = way.lists.below;
      rose = λ x q at. rose_more q (way.lists.rose x q at);
      each = λ q.
          elim (set_index next job q value in_table) [
            | inl here ↦
                elim (way.lists.each job) [
                  | inl same ↦ absurd (rose same)
                  | inr is ↦ inr (subst (λ (x : ℕ). IsListed rises x) (sym here.0) is)
                ]
            | inr there ↦
                elim (way.lists.each q) [
                  | inl same ↦ inl (there.1 ∙ same)
                  | inr is ↦ inr is
                ]
          ];
    }

    pub lists_added : ListsRisen now (set next job value) (rises ++ job ∷ [])
    lists_added = record {
      below = below_push rises job (length now) way.lists.below (omega (arith, in_table, way.long));
      rose = λ x q at same.
          elim (push_get rises job q x at) [
            | inl old ↦ rose_more q (way.lists.rose x q old) same
            | inr new ↦
                elim (set_index next job q value in_table) [
                  | inl here ↦ omega (arith, here.1, same, higher, way.up job, ap (λ (y : ℕ). slice_index now y) here.0)
                  | inr there ↦ there.0 (sym new.1)
                ]
          ];
      each = λ q.
          elim (set_index next job q value in_table) [
            | inl here ↦ inr (length rises, push_new rises job ∙ ap (λ (x : ℕ). Some x) (sym here.0))
            | inr there ↦
                elim (way.lists.each q) [
                  | inl same ↦ inl (there.1 ∙ same)
                  | inr is ↦ inr (listed_more rises job q is)
                ]
          ];
    }

  -- when all links have asked, the round is over
  pub way_ends : (now next rises : List ℕ) → AreUnderWay graph lanes now next rises →
      ((l k : ℕ) (lane : Lane) → slice_get lanes l ≡ Some lane → k < length lane.links → Leaves lane (task_at graph lane.to.0).wcet now next k) →
      AreRound graph lanes (length lanes) now next
  way_ends now next rises way asks = record {
    long = way.long;
    up = way.up;
    asks = λ l lane below stands k inside. asks l k lane stands inside;
    only = way.only;
  }

  -- what is settled after a round
  pub next_settled : (now next rises : List ℕ) → AreRound graph lanes (length lanes) now next → ListsRisen now next rises → AreSettled graph lanes rises next
  next_settled now next rises round lists = record {
    below = λ x q at. omega (arith, lists.below x q at, round.long);
    others = λ l k lane stands inside.
        elim (lists.each (link_at lane k).from) [
          | inl same ↦ inr (let a = round.asks l lane (slice_get_within lanes l lane stands) stands k inside in omega (arith, a, same))
          | inr is ↦ inl is
        ];
  }

  -- where all jobs are listed, nothing is claimed of links
  pub all_settled : IsWellFormed graph → AreEachLane graph lanes → (now risen : List ℕ) → length now ≡ jobs_in_hyperperiod graph → AreBelow risen (length now) →
      ((q : ℕ) → q < length now → IsListed risen q) → AreSettled graph lanes risen now
  all_settled good are now risen long below all = record {
    below = below;
    others = λ l k lane stands inside. inl (all (link_at lane k).from (omega (arith, links_from graph good lane (are l lane stands) k inside, long)));
  }

  -- links from the first jobs of a list have asked
  pub record HaveAsked (risen : List ℕ) (count : ℕ) (now next : List ℕ) : Type 0 where
    pub others : (l k : ℕ) (lane : Lane) → slice_get lanes l ≡ Some lane → k < length lane.links →
        ((x : ℕ) × (count ≤ x) × (slice_get risen x ≡ Some (link_at lane k).from)) ⊎ Leaves lane (task_at graph lane.to.0).wcet now next k

  pub asked_begins : (risen now : List ℕ) → AreSettled graph lanes risen now → HaveAsked risen 0 now now
  asked_begins risen now settled = record {
    others = λ l k lane stands inside.
        elim (settled.others l k lane stands inside) [
          | inl at ↦ inl (at.0, omega arith, at.1)
          | inr leaves ↦ inr leaves
        ];
  }

  pub asked_more : (risen : List ℕ) (count : ℕ) (now next later : List ℕ) (job : ℕ) → HaveAsked risen count now next → slice_get risen count ≡ Some job →
      ((q : ℕ) → slice_index next q ≤ slice_index later q) →
      ((l : ℕ) (lane : Lane) (k : ℕ) → slice_get lanes l ≡ Some lane → k < length lane.links → (link_at lane k).from ≡ job → Leaves lane (task_at graph lane.to.0).wcet now later k) →
      HaveAsked risen (count + 1) now later
  asked_more risen count now next later job asked at up here = record {
    others = λ l k lane stands inside.
        elim (asked.others l k lane stands inside) [
          | inr leaves ↦ inr (omega (arith, leaves, up (lane.first + k)))
          | inl listed ↦
              elim (cases_lt count listed.0) [
                | inl less ↦ inl (listed.0, omega (arith, less), listed.2)
                | inr above ↦
                    (let e : listed.0 ≡ count = omega (arith, above, listed.1) in
                    let same : (link_at lane k).from ≡ job = same_Some _ _ (sym (subst (λ (x : ℕ). slice_get risen x ≡ Some (link_at lane k).from) e listed.2) ∙ at) in
                    inr (here l lane k stands inside same))
              ]
        ];
  }

  pub asked_ends : (risen : List ℕ) (count : ℕ) (now next : List ℕ) → HaveAsked risen count now next → length risen ≤ count → (l k : ℕ) (lane : Lane) → slice_get lanes l ≡ Some lane → k < length lane.links →
      Leaves lane (task_at graph lane.to.0).wcet now next k
  asked_ends risen count now next asked all l k lane stands inside =
      elim (asked.others l k lane stands inside) [
        | inr leaves ↦ leaves
        | inl listed ↦ absurd (let b = slice_get_within risen listed.0 (link_at lane k).from listed.2 in omega (arith, b, listed.1, all))
      ]

  -- the exits of a job, from the last one down, have asked
  pub record ExitsAsked (list : List Exit) (job count : ℕ) (now next : List ℕ) : Type 0 where
    pub within : count ≤ length list
    pub own : 1 ≤ count → (exit_at list (count - 1)).from ≡ job
    pub asks : (a : ℕ) → count ≤ a → a < length list → (exit_at list a).from ≡ job → (lane : Lane) → slice_get lanes (exit_at list a).lane ≡ Some lane →
        Leaves lane (task_at graph lane.to.0).wcet now next (exit_at list a).place

  module _ (list : List Exit) (last : List ℕ) (part : AreExitsPart graph lanes (length lanes) 0 list last) (job : ℕ) (now next : List ℕ) where
    pub exits_asked_begin : (count : ℕ) → count ≡ slice_index last job → ExitsAsked list job count now next
    exits_asked_begin count is = record {
      within = omega (arith, part.inside job, is);
      own = λ some.
          (let s : 1 ≤ slice_index last job = omega (arith, some, is) in
          ap (λ (x : ℕ). (exit_at list (x - 1)).from) is ∙ part.own job s);
      asks = λ a above below from lane stands.
          absurd (let h = part.none_after a below in omega (arith, h, above, is, ap (λ (x : ℕ). slice_index last x) from));
    }

    pub exits_asked_more : (count : ℕ) → 1 ≤ count → ExitsAsked list job count now next → (exit : Exit) → exit ≡ exit_at list (count - 1) → (later : List ℕ) →
        ((q : ℕ) → slice_index next q ≤ slice_index later q) →
        ((lane : Lane) → slice_get lanes exit.lane ≡ Some lane → Leaves lane (task_at graph lane.to.0).wcet now later exit.place) →
        ExitsAsked list job exit.before now later
    exits_asked_more count some asked exit is later up here = record {
      within = omega (arith, falls, asked.within);
      own = λ more.
          (let m : 1 ≤ (exit_at list (count - 1)).before = omega (arith, more, ap (λ (e : Exit). e.before) is) in
          ap (λ (e : Exit). (exit_at list (e.before - 1)).from) is ∙ part.same (count - 1) inside m ∙ asked.own some);
      asks = λ a above below from lane stands.
          elim (cases_lt a (count - 1)) [
            | inl less ↦ absurd
                (let h = part.none_between (count - 1) a inside less (from ∙ sym (asked.own some)) in
                omega (arith, h, above, ap (λ (e : Exit). e.before) is))
            | inr over ↦
                elim (cases_lt (count - 1) a) [
                  | inl more ↦
                      (let o = asked.asks a (omega (arith, more, some)) below from lane stands in
                      omega (arith, o, up (lane.first + (exit_at list a).place)))
                  | inr under ↦
                      (let e : count - 1 ≡ a = omega (arith, over, under) in
                      let x : exit ≡ exit_at list a = is ∙ ap (λ (y : ℕ). exit_at list y) e in
                      subst (λ (y : Exit). Leaves lane (task_at graph lane.to.0).wcet now later y.place) x
                      (here lane (subst (λ (y : Exit). slice_get lanes y.lane ≡ Some lane) (sym x) stands)))
                ]
          ];
    }
      where
        inside : count - 1 < length list
        inside = omega (arith, some, asked.within)

        falls : exit.before ≤ count - 1
        falls = omega (arith, part.falls (count - 1) inside, ap (λ (e : Exit). e.before) is)

    pub exits_asked_end : ExitsAsked list job 0 now next → (l : ℕ) (lane : Lane) (k : ℕ) → slice_get lanes l ≡ Some lane → k < length lane.links → (link_at lane k).from ≡ job →
        Leaves lane (task_at graph lane.to.0).wcet now next k
    exits_asked_end asked l lane k stands inside from =
        let found = part.all l k lane (inl (slice_get_within lanes l lane stands)) stands inside in
        let is : IsExit lanes (exit_at list found.0) = part.each found.0 found.1 in
        let at : slice_get lanes (exit_at list found.0).lane ≡ Some lane = subst (λ (x : ℕ). slice_get lanes x ≡ Some lane) (sym found.2) stands in
        let one : is.0 ≡ lane = same_Some _ _ (sym is.1 ∙ at) in
        let own : (exit_at list found.0).from ≡ job =
        sym is.3 ∙ ap (λ (x : Lane). (link_at x (exit_at list found.0).place).from) one ∙ ap (λ (x : ℕ). (link_at lane x).from) found.3 ∙ from in
        subst (λ (x : ℕ). Leaves lane (task_at graph lane.to.0).wcet now next x) found.3 (asked.asks found.0 (omega arith) found.1 own lane at)

-- dates taken over one by one
pub record AreTakenOver (rises : List ℕ) (count : ℕ) (old next now : List ℕ) : Type 0 where
  pub long : length now ≡ length old
  pub done : (x q : ℕ) → x < count → slice_get rises x ≡ Some q → slice_index now q ≡ slice_index next q
  pub each : (q : ℕ) → (slice_index now q ≡ slice_index next q) ⊎ (slice_index now q ≡ slice_index old q)

pub taken_begins : (rises old next : List ℕ) → AreTakenOver rises 0 old next old
taken_begins rises old next = record { long = refl; done = λ x q below. absurd (omega (arith, below)); each = λ q. inr refl }

pub taken_more : (rises : List ℕ) (count : ℕ) (old next now : List ℕ) → AreTakenOver rises count old next now → (job : ℕ) → slice_get rises count ≡ Some job → job < length now →
    AreTakenOver rises (count + 1) old next (set now job (slice_index next job))
taken_more rises count old next now taken job at inside = record {
  long = length-set now job (slice_index next job) ∙ taken.long;
  done = λ x q below stands.
      elim (set_index now job q (slice_index next job) inside) [
        | inl here ↦ here.1 ∙ ap (λ (y : ℕ). slice_index next y) (sym here.0)
        | inr there ↦
            elim (cases_lt x count) [
              | inl less ↦ there.1 ∙ taken.done x q less stands
              | inr above ↦
                  (let e : x ≡ count = omega (arith, above, below) in
                  absurd (there.0 (same_Some _ _ (sym (subst (λ (y : ℕ). slice_get rises y ≡ Some q) e stands) ∙ at))))
            ]
      ];
  each = λ q.
      elim (set_index now job q (slice_index next job) inside) [
        | inl here ↦ inl (here.1 ∙ ap (λ (y : ℕ). slice_index next y) (sym here.0))
        | inr there ↦
            elim (taken.each q) [
              | inl new ↦ inl (there.1 ∙ new)
              | inr old_one ↦ inr (there.1 ∙ old_one)
            ]
      ];
}

pub taken_ends : (rises : List ℕ) (count : ℕ) (old next now : List ℕ) → AreTakenOver rises count old next now → length rises ≤ count → length next ≡ length old → ListsRisen old next rises → now ≡ next
taken_ends rises count old next now taken all long lists =
    ext_get_or 0 now next (taken.long ∙ sym long)
    (λ q below.
    elim (lists.each q) [
      | inl same ↦
          elim (taken.each q) [
            | inl new ↦ new
            | inr old_one ↦ old_one ∙ sym same
          ]
      | inr is ↦ taken.done is.0 q (let b = slice_get_within rises is.0 q is.1 in omega (arith, b, all)) is.1
    ])

-- indices at which the tables differ, listed so far
pub record RisenSoFar (now next : List ℕ) (count : ℕ) (rises : List ℕ) : Type 0 where
  pub below : AreBelow rises (length now)
  pub rose : (x q : ℕ) → slice_get rises x ≡ Some q → slice_index next q ≡ slice_index now q → ⊥
  pub each : (q : ℕ) → q < count → (slice_index next q ≡ slice_index now q) ⊎ IsListed rises q

pub risen_begins : (now next : List ℕ) → RisenSoFar now next 0 []
risen_begins now next = record { below = λ x q at. absurd (nothing x q at); rose = λ x q at. absurd (nothing x q at); each = λ q less. absurd (omega (arith, less)) }

pub risen_added : (now next : List ℕ) (count : ℕ) (rises : List ℕ) → RisenSoFar now next count rises → count < length now → (slice_index next count ≡ slice_index now count → ⊥) →
    RisenSoFar now next (count + 1) (rises ++ count ∷ [])
risen_added now next count rises so_far inside other = record {
  below = below_push rises count (length now) so_far.below inside;
  rose = λ x q at same.
      elim (push_get rises count q x at) [
        | inl old ↦ so_far.rose x q old same
        | inr new ↦ other (subst (λ (y : ℕ). slice_index next y ≡ slice_index now y) (sym new.1) same)
      ];
  each = λ q less.
      elim (cases_lt q count) [
        | inl before ↦
            elim (so_far.each q before) [
              | inl same ↦ inl same
              | inr is ↦ inr (listed_more rises count q is)
            ]
        | inr above ↦ inr (length rises, push_new rises count ∙ ap (λ (x : ℕ). Some x) (let e : count ≡ q = omega (arith, above, less) in e))
      ];
}

pub risen_kept : (now next : List ℕ) (count : ℕ) (rises : List ℕ) → RisenSoFar now next count rises → slice_index next count ≡ slice_index now count → RisenSoFar now next (count + 1) rises
risen_kept now next count rises so_far same = record {
  below = so_far.below;
  rose = so_far.rose;
  each = λ q less.
      elim (cases_lt q count) [
        | inl before ↦ so_far.each q before
        | inr above ↦ (let e : count ≡ q = omega (arith, above, less) in inl (subst (λ (x : ℕ). slice_index next x ≡ slice_index now x) e same))
      ];
}

pub risen_ends : (now next : List ℕ) (count : ℕ) (rises : List ℕ) → RisenSoFar now next count rises → length now ≤ count → length next ≡ length now → ListsRisen now next rises
risen_ends now next count rises so_far all long = record {
  below = so_far.below;
  rose = so_far.rose;
  each = λ q.
      elim (cases_lt q count) [
        | inl less ↦ so_far.each q less
        | inr past ↦ inl (get_past next q 0 (omega (arith, past, all, long)) ∙ sym (get_past now q 0 (omega (arith, past, all))))
      ];
}

-- a list of the first numbers has only these
pub first_below : (list : List ℕ) (count bound : ℕ) → length list ≡ count → ((q : ℕ) → q < count → slice_get list q ≡ Some q) → count ≤ bound → AreBelow list bound
first_below list count bound long each within x q at =
    let inside = slice_get_within list x q at in
    let e : x ≡ q = same_Some _ _ (sym (each x (omega (arith, inside, long))) ∙ at) in
    omega (arith, inside, long, within, e)

-- where some index is listed the tables differ
pub lists_differ : (now new rises : List ℕ) → ListsRisen now new rises → 1 ≤ length rises → new ≡ now → ⊥
lists_differ now new [] lists some same = omega (arith, some)
lists_differ now new (q ∷ rises) lists some same = lists.rose 0 q refl (ap (λ (xs : List ℕ). slice_index xs q) same)
