-- Each well-formed graph has lanes.
use Rattle.prl_base.proofs.Standard.{◌≡◌, ◌+◌, ◌<◌, ◌≤◌, ◌⊎◌, ◌++◌, ℕ, zero, suc, List, [], ◌∷◌, length, Some, inl, inr, refl, sym, ◌∙◌, ap, subst, arith, ℤ, pos, ◌-ℤ◌, unsigned_abs, slice_get}
use Rattle.prl_base.proofs.Standard.{slice_index_or, int_max, cases_eq, slice_get-get_or, slice_get_within, same_Some}
use Rattle.prl_base.specs.declared.numbers.TaskNo.{TaskNo}
use Rattle.prl_plan.specs.Vocabulary.{place_in, IsWellFormed, task_at, release_of, edge_at, no_edge, preceding, ComesFrom}
use Rattle.prl_plan.specs.declared.graphs.Edge.{Edge}
use Rattle.prl_plan.specs.declared.graphs.Producer.{Producer}
use Rattle.prl_plan.specs.declared.graphs.TaskGraph.{TaskGraph}
use Rattle.prl_plan.specs.declared.graphs.Producer.TheVariants as producers
use Rattle.prl_plan.proofs.Searches.{listed, listed_long, listed_at, listed_or}
use Rattle.prl_dates.specs.Vocabulary.{Lane, Link, jobs_of, jobs_before, JoinsAt, AreGreatest, IsLinkOf, IsLane, AreLanesOf, AreLanes}
use Rattle.prl_dates.proofs.LaneSteps.{joins_inside, are_near, link_made, greatest_first, greatest_more, greatest_same, greatest_all, lane_made, lanes_same, lanes_more, lanes_begin, lanes_all}

module _ (graph : TaskGraph) (good : IsWellFormed graph) where
  edge_found : (e : ℕ) → e < length graph.edges → slice_get graph.edges e ≡ Some (edge_at graph e)
  edge_found e inside = slice_get-get_or graph.edges e no_edge inside

  joined_or_not : (from : Producer) (to i j : ℕ) → (ComesFrom from i × (to ≡ j)) ⊎ (ComesFrom from i → to ≡ j → ⊥)
  joined_or_not (producers.Constant value) to i j = inr (λ from _. from)
  joined_or_not (producers.Port task out) to i j = elim (cases_eq task.0 i) [
    | inr apart ↦ inr (λ from _. apart from)
    | inl from ↦ elim (cases_eq to j) [ inl same ↦ inl (from, same) | inr apart ↦ inr (λ _ same. apart same) ]
  ]

  module _ (i j e : ℕ) (joins : JoinsAt graph i j e) where
    -- the greatest numbers along the first edges
    some_numbers : (count : ℕ) → count ≤ length graph.edges → (numbers : List ℤ) × AreGreatest graph i j count numbers
    some_numbers zero within =
        let stands = edge_found e joins.inside in
        let both = joins.joins (edge_at graph e) stands in (
          listed (λ n. preceding (edge_at graph e).ops (pos n)) (jobs_of graph j),
          greatest_first graph good i j e (edge_at graph e) stands both.0 both.1 (listed (λ n. preceding (edge_at graph e).ops (pos n)) (jobs_of graph j))
              (listed_long (λ n. preceding (edge_at graph e).ops (pos n)) (jobs_of graph j))
              (λ n below. listed_or (λ k. preceding (edge_at graph e).ops (pos k)) (jobs_of graph j) n (pos 0) below),
        )
    some_numbers (suc k) within =
        let before = some_numbers k (omega (arith, within)) in
        let stands = edge_found k (omega (arith, within)) in
        let next : k + 1 ≡ suc k = omega arith in
        elim (joined_or_not (edge_at graph k).from (edge_at graph k).to.0 i j) [
          | inr apart ↦ (
            before.0,
            subst (λ (n : ℕ). AreGreatest graph i j n before.0) next (greatest_same graph good i j k (edge_at graph k) stands apart before.0 before.1),
          )
          | inl both ↦ (
            listed (λ n. int_max (slice_index_or before.0 n (pos 0)) (preceding (edge_at graph k).ops (pos n))) (length before.0),
            subst (λ (n : ℕ). AreGreatest graph i j n (listed (λ n. int_max (slice_index_or before.0 n (pos 0)) (preceding (edge_at graph k).ops (pos n))) (length before.0))) next
                (greatest_more graph good i j k (edge_at graph k) stands both.0 both.1 before.0
                (listed (λ n. int_max (slice_index_or before.0 n (pos 0)) (preceding (edge_at graph k).ops (pos n))) (length before.0)) before.1
                (listed_long (λ n. int_max (slice_index_or before.0 n (pos 0)) (preceding (edge_at graph k).ops (pos n))) (length before.0))
                (λ n below. listed_or (λ x. int_max (slice_index_or before.0 x (pos 0)) (preceding (edge_at graph k).ops (pos x))) (length before.0) n (pos 0) below)),
          )
        ]

    -- the link from job m of the one task to job n of the other
    abbrev link_to : ℕ → ℤ → Link
    link_to n m = record {
      from = jobs_before graph i + place_in m (jobs_of graph i);
      gap = unsigned_abs (release_of (task_at graph j) (pos n) -ℤ release_of (task_at graph i) m);
    }

    some_lane : (from to : TaskNo) → from.0 ≡ i → to.0 ≡ j → (lane : Lane) × IsLane graph lane × (lane.from.0 ≡ i) × (lane.to.0 ≡ j)
    some_lane from to from_is to_is =
        let numbers = some_numbers (length graph.edges) (omega arith) in
        let links : List Link = listed (λ n. link_to n (slice_index_or numbers.0 n (pos 0))) (jobs_of graph j) in
        let long : length links ≡ jobs_of graph j = listed_long (λ n. link_to n (slice_index_or numbers.0 n (pos 0))) (jobs_of graph j) in
        let inside = joins_inside graph good i j e joins in
        let made : (n : ℕ) (link : Link) → slice_get links n ≡ Some link → IsLinkOf graph i j (pos n) (slice_index_or numbers.0 n (pos 0)) link =
        λ n link at. (let below : n < jobs_of graph j = (let w = slice_get_within links n link at in omega (arith, w, long)) in
        let same : link_to n (slice_index_or numbers.0 n (pos 0)) ≡ link =
        same_Some (link_to n (slice_index_or numbers.0 n (pos 0))) link (sym (listed_at (λ n. link_to n (slice_index_or numbers.0 n (pos 0))) (jobs_of graph j) n below) ∙ at) in
        link_made graph good i j n (slice_index_or numbers.0 n (pos 0))
        (are_near graph good i j n (slice_index_or numbers.0 n (pos 0)) inside.0 inside.1 below (greatest_all graph good i j numbers.0 numbers.1 n below))
        link (sym (ap (λ (l : Link). l.from) same)) (sym (ap (λ (l : Link). l.gap) same))) in (
          record { from = from; to = to; first = jobs_before graph j; links = links },
          lane_is from to links numbers.0 from_is to_is inside long numbers.1 made,
          from_is,
          to_is,
        )
      where
        lane_is : (from to : TaskNo) (links : List Link) (numbers : List ℤ) → from.0 ≡ i → to.0 ≡ j → (i < length graph.tasks) × (j < length graph.tasks) →
            length links ≡ jobs_of graph j → AreGreatest graph i j (length graph.edges) numbers →
            ((n : ℕ) (link : Link) → slice_get links n ≡ Some link → IsLinkOf graph i j (pos n) (slice_index_or numbers n (pos 0)) link) →
            IsLane graph (record { from = from; to = to; first = jobs_before graph j; links = links })
        lane_is from to links numbers f t inside long are made =
            lane_made graph good (record { from = from; to = to; first = jobs_before graph j; links = links })
            (omega (arith, f, inside.0)) (omega (arith, t, inside.1)) (ap (λ (x : ℕ). jobs_before graph x) (sym t)) (long ∙ ap (λ (x : ℕ). jobs_of graph x) (sym t)) numbers
            (subst (λ (x : ℕ). AreGreatest graph x to.0 (length graph.edges) numbers) (sym f) (subst (λ (y : ℕ). AreGreatest graph i y (length graph.edges) numbers) (sym t) are))
            (λ n link at. subst (λ (x : ℕ). IsLinkOf graph x to.0 (pos n) (slice_index_or numbers n (pos 0)) link) (sym f)
            (subst (λ (y : ℕ). IsLinkOf graph i y (pos n) (slice_index_or numbers n (pos 0)) link) (sym t) (made n link at)))

  some_lanes : (e : ℕ) → e ≤ length graph.edges → (lanes : List Lane) × AreLanesOf graph e lanes
  some_lanes zero within = ([], lanes_begin graph good)
  some_lanes (suc e) within =
      let before = some_lanes e (omega (arith, within)) in
      more e (edge_at graph e) (edge_found e (omega (arith, within))) (omega (arith, within)) before.0 before.1 (edge_at graph e).from refl
    where
      next : (e : ℕ) → e + 1 ≡ suc e
      next e = omega arith

      more : (e : ℕ) (edge : Edge) → slice_get graph.edges e ≡ Some edge → e < length graph.edges → (lanes : List Lane) → AreLanesOf graph e lanes →
          (from : Producer) → edge.from ≡ from → (longer : List Lane) × AreLanesOf graph (suc e) longer
      more e edge stands inside lanes are (producers.Constant value) is = (
        lanes,
        subst (λ (n : ℕ). AreLanesOf graph n lanes) (next e)
            (lanes_same graph good e edge stands lanes are (λ i from. absurd (subst (λ (p : Producer). ComesFrom p i) is from))),
      )
      more e edge stands inside lanes are (producers.Port task out) is =
          let joins : JoinsAt graph task.0 edge.to.0 e = record {
            inside = inside;
            joins = λ other at. (let same : edge ≡ other = same_Some edge other (sym stands ∙ at) in
                (subst (λ (x : Edge). ComesFrom x.from task.0) same (subst (λ (p : Producer). ComesFrom p task.0) (sym is) refl), sym (ap (λ (x : Edge). x.to.0) same)));
          } in
          let lane = some_lane task.0 edge.to.0 e joins task edge.to refl refl in (
            lanes ++ lane.0 ∷ [],
            subst (λ (n : ℕ). AreLanesOf graph n (lanes ++ lane.0 ∷ [])) (next e)
                (lanes_more graph good e edge stands lanes are lane.0 lane.1
                (λ i from. (lane.2 ∙ subst (λ (p : Producer). ComesFrom p i) is from, lane.3))),
          )

  pub lanes_exist : (lanes : List Lane) × AreLanes graph lanes
  lanes_exist = let all = some_lanes (length graph.edges) (omega arith) in (all.0, lanes_all graph good all.0 all.1)
