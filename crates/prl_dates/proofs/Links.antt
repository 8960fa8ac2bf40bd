-- Links over all whole job numbers.
use Rattle.prl_base.proofs.Standard.{◌≡◌, ◌<◌, ◌≤◌, ℕ, length, refl, sym, ◌∙◌, ap, subst, arith, ℤ, pos, ◌+ℤ◌, ◌-ℤ◌, ints}
use Rattle.prl_plan.specs.Vocabulary.{place_in, preceding, Precedes, IsWellFormed, IsEdge}
use Rattle.prl_plan.specs.declared.graphs.Edge.{Edge}
use Rattle.prl_plan.specs.declared.graphs.TaskGraph.{TaskGraph}
use Rattle.prl_plan.proofs.Periods.{everywhere}
use Rattle.prl_plan.proofs.RoundLaws.{source_inside}
use Rattle.prl_plan.proofs.RoundPeriods.{edge_precedes}
use Rattle.prl_dates.specs.Vocabulary.{Lane, jobs_of, index_of, Joins, link_at, IsLink, IsLane}
use Rattle.prl_dates.proofs.Indices.{place_again, place_self, jobs_are, some_jobs, index_again, release_again}

module _ (graph : TaskGraph) (good : IsWellFormed graph) where
  pub joined_edge : (i j : ℕ) (edge : Edge) → Joins graph i j edge → IsEdge graph edge
  joined_edge i j edge joins = good.edges joins.stands.0 edge joins.stands.1

  -- the number that precedes goes on with the hyperperiod
  pub joins_shift : (i j : ℕ) (edge : Edge) → Joins graph i j edge → (n : ℤ) →
      preceding edge.ops (n +ℤ pos (jobs_of graph j)) ≡ preceding edge.ops n +ℤ pos (jobs_of graph i)
  joins_shift i j edge joins n =
      let is : IsEdge graph edge = joined_edge i j edge joins in
      let inside : i < length graph.tasks = source_inside graph edge is edge.from refl i joins.from in
      subst (λ (k : ℕ). preceding edge.ops (n +ℤ pos (jobs_of graph k)) ≡ preceding edge.ops n +ℤ pos (jobs_of graph i)) joins.to
      (edge_precedes graph good edge is i (jobs_of graph edge.to.0) (jobs_of graph i) joins.from (jobs_are graph good edge.to.0 is.to) (jobs_are graph good i inside) n)

  module _ (lane : Lane) (lanes : IsLane graph lane) (k : ℕ) where
    c : ℤ
    c = pos (jobs_of graph lane.to.0)

    d : ℤ
    d = pos (jobs_of graph lane.from.0)

    pub link_up : (n m : ℤ) → IsLink graph lane k n m → IsLink graph lane k (n +ℤ pos (jobs_of graph lane.to.0)) (m +ℤ pos (jobs_of graph lane.from.0))
    link_up n m link = record {
      place = place_again (jobs_of graph lane.to.0) (some_jobs graph good lane.to.0 lanes.to) n ∙ link.place;
      greatest = record {
        attained = (
          link.greatest.attained.0,
          link.greatest.attained.1,
          joins_shift lane.from.0 lane.to.0 link.greatest.attained.0 link.greatest.attained.1 n
              ∙ ap (λ (z : ℤ). z +ℤ pos (jobs_of graph lane.from.0)) link.greatest.attained.2,
        );
        above = λ edge joins.
            omega (arith, ints, joins_shift lane.from.0 lane.to.0 edge joins n, link.greatest.above edge joins);
      };
      index = index_again graph good lane.from.0 lanes.from m ∙ link.index;
      gap =
          omega (arith, ints, release_again graph good lane.to.0 lanes.to n, release_again graph good lane.from.0 lanes.from m, link.gap);
    }

    pub link_down : (n m : ℤ) → IsLink graph lane k (n +ℤ pos (jobs_of graph lane.to.0)) (m +ℤ pos (jobs_of graph lane.from.0)) → IsLink graph lane k n m
    link_down n m link = record {
      place = sym (place_again (jobs_of graph lane.to.0) (some_jobs graph good lane.to.0 lanes.to) n) ∙ link.place;
      greatest = record {
        attained = (
          link.greatest.attained.0,
          link.greatest.attained.1,
          (let s = joins_shift lane.from.0 lane.to.0 link.greatest.attained.0 link.greatest.attained.1 n in
              let g : preceding link.greatest.attained.0.ops n ≡ m = omega (arith, ints, s, link.greatest.attained.2) in g),
        );
        above = λ edge joins.
            (let s = joins_shift lane.from.0 lane.to.0 edge joins n in omega (arith, ints, s, link.greatest.above edge joins));
      };
      index = sym (index_again graph good lane.from.0 lanes.from m) ∙ link.index;
      gap =
          omega (arith, ints, release_again graph good lane.to.0 lanes.to n, release_again graph good lane.from.0 lanes.from m, link.gap);
    }

    back_again : (m : ℤ) (len : ℕ) → (m -ℤ pos len) +ℤ pos len ≡ m
    back_again m len = omega (arith, ints)

    link_back : (n m : ℤ) → IsLink graph lane k (n +ℤ pos (jobs_of graph lane.to.0)) m → IsLink graph lane k n (m -ℤ pos (jobs_of graph lane.from.0))
    link_back n m link =
        link_down n (m -ℤ pos (jobs_of graph lane.from.0))
        (subst (λ (z : ℤ). IsLink graph lane k (n +ℤ pos (jobs_of graph lane.to.0)) z) (sym (back_again m (jobs_of graph lane.from.0))) link)

    link_before : (n m : ℤ) → IsLink graph lane k n (m +ℤ pos (jobs_of graph lane.from.0)) → IsLink graph lane k (n -ℤ pos (jobs_of graph lane.to.0)) m
    link_before n m link =
        link_down (n -ℤ pos (jobs_of graph lane.to.0)) m
        (subst (λ (z : ℤ). IsLink graph lane k z (m +ℤ pos (jobs_of graph lane.from.0))) (sym (back_again n (jobs_of graph lane.to.0))) link)

    -- the link stands for this job before
    abbrev From : ℤ → Type 0
    From x = (n : ℤ) × IsLink graph lane k n x

    from_up : (x : ℤ) → From x → From (x +ℤ pos (jobs_of graph lane.from.0))
    from_up x r = (r.0 +ℤ pos (jobs_of graph lane.to.0), link_up r.0 x r.1)

    from_down : (x : ℤ) → From (x +ℤ pos (jobs_of graph lane.from.0)) → From x
    from_down x r = (r.0 -ℤ pos (jobs_of graph lane.to.0), link_before r.0 x r.1)

    from_some : 1 ≤ jobs_of graph lane.from.0
    from_some = some_jobs graph good lane.from.0 lanes.from

    from_again : (x : ℤ) → place_in (x +ℤ pos (jobs_of graph lane.from.0)) (jobs_of graph lane.from.0) ≡ place_in x (jobs_of graph lane.from.0)
    from_again x = place_again (jobs_of graph lane.from.0) from_some x

    from_place : (x : ℤ) → From x → From (pos (place_in x (jobs_of graph lane.from.0)))
    from_place = everywhere (λ (x : ℤ). From x → From (pos (place_in x (jobs_of graph lane.from.0)))) (jobs_of graph lane.from.0) from_some
        (λ n less r. subst (λ (p : ℕ). From (pos p)) (sym (place_self (jobs_of graph lane.from.0) n less)) r)
        (λ x h r. subst (λ (p : ℕ). From (pos p)) (sym (from_again x)) (h (from_down x r)))
        (λ x h r. subst (λ (p : ℕ). From (pos p)) (from_again x) (h (from_up x r)))

    from_alike : (first : ℤ) → From first → (x : ℤ) → place_in x (jobs_of graph lane.from.0) ≡ place_in first (jobs_of graph lane.from.0) → From x
    from_alike first r =
        everywhere (λ (x : ℤ). place_in x (jobs_of graph lane.from.0) ≡ place_in first (jobs_of graph lane.from.0) → From x) (jobs_of graph lane.from.0) from_some
        (λ n less e. subst (λ (p : ℕ). From (pos p)) (sym e ∙ place_self (jobs_of graph lane.from.0) n less) (from_place first r))
        (λ x h e. from_up x (h (sym (from_again x) ∙ e)))
        (λ x h e. from_down x (h (from_again x ∙ e)))

    -- the link stands for each job of the index that it comes from
    pub link_from : k < jobs_of graph lane.to.0 → (m : ℤ) → index_of graph lane.from.0 m ≡ (link_at lane k).from → (n : ℤ) × IsLink graph lane k n m
    link_from below m index =
        let first = lanes.links k below in
        from_alike first.0 (pos k, first.1) m (omega (arith, first.1.index, index))

  -- each job of the lane's later task has a link
  pub link_to : (lane : Lane) → IsLane graph lane → (n : ℤ) → (m : ℤ) × IsLink graph lane (place_in n (jobs_of graph lane.to.0)) n m
  link_to lane lanes =
      everywhere (λ (n : ℤ). (m : ℤ) × IsLink graph lane (place_in n (jobs_of graph lane.to.0)) n m) (jobs_of graph lane.to.0) some
      (λ n less. subst (λ (k : ℕ). (m : ℤ) × IsLink graph lane k (pos n) m) (sym (place_self (jobs_of graph lane.to.0) n less)) (lanes.links n less))
      (λ n h. subst (λ (k : ℕ). (m : ℤ) × IsLink graph lane k (n +ℤ pos (jobs_of graph lane.to.0)) m) (sym (again n))
      (h.0 +ℤ pos (jobs_of graph lane.from.0), link_up lane lanes (place_in n (jobs_of graph lane.to.0)) n h.0 h.1))
      (λ n h. (
        h.0 -ℤ pos (jobs_of graph lane.from.0),
        link_back lane lanes (place_in n (jobs_of graph lane.to.0)) n h.0
            (subst (λ (k : ℕ). IsLink graph lane k (n +ℤ pos (jobs_of graph lane.to.0)) h.0) (again n) h.1),
      ))
    where
      some : 1 ≤ jobs_of graph lane.to.0
      some = some_jobs graph good lane.to.0 lanes.to

      again : (x : ℤ) → place_in (x +ℤ pos (jobs_of graph lane.to.0)) (jobs_of graph lane.to.0) ≡ place_in x (jobs_of graph lane.to.0)
      again x = place_again (jobs_of graph lane.to.0) some x

  -- the jobs of a link precede one another
  pub link_precedes : (lane : Lane) (k : ℕ) (n m : ℤ) → IsLink graph lane k n m → Precedes graph (record { task = lane.from.0; number = m }) (record { task = lane.to.0; number = n })
  link_precedes lane k n m link =
      let joins : Joins graph lane.from.0 lane.to.0 link.greatest.attained.0 = link.greatest.attained.1 in
      (joins.stands.0, link.greatest.attained.0, joins.stands.1, record { from = joins.from; to = joins.to; number = sym link.greatest.attained.2 })
