-- A round over the tables is one over the families that they tell.
use Rattle.prl_base.proofs.Standard.{◌≡◌, ◌+◌, ◌<◌, ◌⊎◌, ℕ, List, length, Some, inl, inr, sym, ◌∙◌, ap, subst, arith, ℤ, pos, ◌+ℤ◌, ◌≤ℤ◌, slice_get, slice_index, ints, slice_get_within}
use Rattle.prl_plan.specs.Vocabulary.{place_in, Job, task_at, release_of, ComesFrom, Precedes, PrecedesAlong, IsWellFormed}
use Rattle.prl_plan.specs.declared.graphs.Edge.{Edge}
use Rattle.prl_plan.specs.declared.graphs.TaskGraph.{TaskGraph}
use Rattle.prl_dates.specs.Vocabulary.{Lane, jobs_of, IsRound, jobs_before, index_of, dates_of, Joins, IsLink, IsLane, AreLanes, Leaves, Meets, AreRound}
use Rattle.prl_dates.proofs.Links.{link_to, link_precedes}
use Rattle.prl_dates.proofs.Indices.{one_index, place_below, some_jobs}

-- a date that a link asked for is that of a job before, and then the WCET
pub record Met (graph : TaskGraph) (lane : Lane) (now new : List ℕ) (i : ℕ) (n : ℤ) (k : ℕ) : Type 0 where
  pub before : ℤ
  pub task : i ≡ lane.to.0
  pub link : IsLink graph lane k n before
  pub date : dates_of graph new i n ≡ dates_of graph now lane.from.0 before +ℤ pos (task_at graph i).wcet

pub met : (graph : TaskGraph) (good : IsWellFormed graph) (lane : Lane) → IsLane graph lane → (now new : List ℕ) (i : ℕ) (n : ℤ) (k : ℕ) → i < length graph.tasks →
    k < length lane.links → index_of graph i n ≡ lane.first + k → Meets lane (task_at graph lane.to.0).wcet now new k → Met graph lane now new i n k
met graph good lane is now new i n k inside below at meets =
    let below' : k < jobs_of graph lane.to.0 = omega (arith, below, is.long) in
    let there : jobs_before graph i + place_in n (jobs_of graph i) ≡ jobs_before graph lane.to.0 + k = at ∙ ap (λ (x : ℕ). x + k) is.first in
    let one = one_index graph i lane.to.0 (place_in n (jobs_of graph i)) k (place_below (jobs_of graph i) (some_jobs graph good i inside) n) below' there in
    let link = link_to graph good lane is n in
    let here : IsLink graph lane k n link.0 = subst (λ (x : ℕ). IsLink graph lane x n link.0) (ap (λ (j : ℕ). place_in n (jobs_of graph j)) (sym one.0) ∙ one.1) link.1 in
    let v : slice_index new (index_of graph i n) ≡ slice_index new (lane.first + k) = ap (λ (q : ℕ). slice_index new q) at in
    let t : release_of (task_at graph i) n ≡ release_of (task_at graph lane.to.0) n = ap (λ (j : ℕ). release_of (task_at graph j) n) one.0 in
    let c : (task_at graph i).wcet ≡ (task_at graph lane.to.0).wcet = ap (λ (j : ℕ). (task_at graph j).wcet) one.0 in
    record { before = link.0; task = one.0; link = here; date = omega (arith, ints, meets, ap (λ (q : ℕ). slice_index now q) here.index, v, here.gap, t, c) }

module _ (graph : TaskGraph) (good : IsWellFormed graph) (lanes : List Lane) (are : AreLanes graph lanes) where
  -- what two jobs that precede one another have in common: the lane, its link, and the greatest job before
  pub record Linked (first second : Job) : Type 0 where
    pub l : ℕ
    pub lane : Lane
    pub stands : slice_get lanes l ≡ Some lane
    pub is : IsLane graph lane
    pub from : lane.from.0 ≡ first.task
    pub to : lane.to.0 ≡ second.task
    pub k : ℕ
    pub below : k < jobs_of graph lane.to.0
    pub before : ℤ
    pub link : IsLink graph lane k second.number before
    pub greatest : first.number ≤ℤ before

  pub linked : (first second : Job) → Precedes graph first second → Linked first second
  linked first second h =
      let edge : Edge = h.1 in
      let along : PrecedesAlong graph edge first second = h.3 in
      let joins : Joins graph first.task second.task edge = record { stands = (h.0, h.2); from = along.from; to = along.to } in
      let at = are.all first.task second.task edge joins in
      let lane : Lane = at.1 in
      let is : IsLane graph lane = are.each at.0 lane at.2 in
      let link = link_to graph good lane is second.number in
      record {
        l = at.0;
        lane = at.1;
        stands = at.2;
        is = is;
        from = at.3;
        to = at.4;
        k = place_in second.number (jobs_of graph lane.to.0);
        below = place_below (jobs_of graph lane.to.0) (some_jobs graph good lane.to.0 is.to) second.number;
        before = link.0;
        link = link.1;
        greatest =
            (let a = link.1.greatest.above edge (record { stands = joins.stands; from = subst (λ (x : ℕ). ComesFrom edge.from x) (sym at.3) along.from; to = along.to ∙ sym at.4 }) in
            omega (arith, ints, a, along.number));
      }

  -- where the lane's link leaves time, so do the two jobs
  pub linked_order : (before after : List ℕ) → ((i : ℕ) (a b : ℤ) → i < length graph.tasks → a ≤ℤ b → dates_of graph before i a ≤ℤ dates_of graph before i b) →
      (first second : Job) (at : Linked first second) → Leaves at.lane (task_at graph at.lane.to.0).wcet before after at.k →
      (dates_of graph before first.task first.number +ℤ pos (task_at graph second.task).wcet) ≤ℤ dates_of graph after second.task second.number
  linked_order before after rises first second at asks =
      let s : index_of graph at.lane.to.0 second.number ≡ at.lane.first + at.k =
      ap (λ (x : ℕ). jobs_before graph at.lane.to.0 + x) at.link.place ∙ ap (λ (x : ℕ). x + at.k) (sym at.is.first) in
      let v : slice_index after (index_of graph at.lane.to.0 second.number) ≡ slice_index after (at.lane.first + at.k) = ap (λ (q : ℕ). slice_index after q) s in
      let here : (dates_of graph before at.lane.from.0 first.number +ℤ pos (task_at graph at.lane.to.0).wcet) ≤ℤ dates_of graph after at.lane.to.0 second.number =
      omega (arith, ints, asks, rises at.lane.from.0 first.number at.before at.is.from at.greatest, v, ap (λ (q : ℕ). slice_index before q) at.link.index, at.link.gap) in
      subst (λ (i : ℕ). (dates_of graph before i first.number +ℤ pos (task_at graph second.task).wcet) ≤ℤ dates_of graph after second.task second.number) at.from
      (subst (λ (j : ℕ). (dates_of graph before at.lane.from.0 first.number +ℤ pos (task_at graph j).wcet) ≤ℤ dates_of graph after j second.number) at.to here)

  module _ (now new : List ℕ) (round : AreRound graph lanes (length lanes) now new)
      (rises : (i : ℕ) (a b : ℤ) → i < length graph.tasks → a ≤ℤ b → dates_of graph now i a ≤ℤ dates_of graph now i b) where
    order : (first second : Job) → Precedes graph first second →
        (dates_of graph now first.task first.number +ℤ pos (task_at graph second.task).wcet) ≤ℤ dates_of graph new second.task second.number
    order first second h =
        let at : Linked first second = linked first second h in
        linked_order now new rises first second at
        (round.asks at.l at.lane (slice_get_within lanes at.l at.lane at.stands) at.stands at.k (omega (arith, at.below, at.is.long)))

    only : (job : Job) → job.task < length graph.tasks →
        (dates_of graph new job.task job.number ≡ dates_of graph now job.task job.number)
        ⊎ ((first : Job) × Precedes graph first job × (dates_of graph new job.task job.number ≡ dates_of graph now first.task first.number +ℤ pos (task_at graph job.task).wcet))
    only job inside =
        elim (round.only (index_of graph job.task job.number)) [
          | inl same ↦ inl (ap (λ (x : ℕ). release_of (task_at graph job.task) job.number +ℤ pos x) same)
          | inr by ↦
              (let m : Met graph by.1 now new job.task job.number by.3 =
              met graph good by.1 (are.each by.0 by.1 by.2) now new job.task job.number by.3 inside by.4 by.5 by.6 in
              let first : Job = record { task = by.1.from.0; number = m.before } in
              inr (
                first,
                subst (λ (j : ℕ). Precedes graph first (record { task = j; number = job.number })) (sym m.task) (link_precedes graph good by.1 by.3 job.number m.before m.link),
                m.date,
              ))
        ]

    pub round_of_tables : IsRound graph (dates_of graph now) (dates_of graph new)
    round_of_tables = record {
      up = λ i m inside. omega (arith, ints, round.up (index_of graph i m));
      order = order;
      only = only;
    }
