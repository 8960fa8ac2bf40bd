-- How many actions the jobs of a task have, edge by edge.
use Rattle.prl_base.proofs.Standard.{◌≡◌, ◌+◌, ◌<◌, ℕ, [], length, take, refl, ap, arith, is_some, if◌then◌else◌, take_all}
use Rattle.prl_plan.specs.Vocabulary.{sum_below, operand_of, ComesFrom, PlanView, edge_at, place_on, both_writes, reading, reads_of, writes_of, actions_of}
use Rattle.prl_plan.proofs.ActionLists.{reads_more, reads_same, writes_more, writes_same, all_actions_long}
use Rattle.prl_plan.proofs.SumLaws.{sum_plus, sum_same, sum_none, sum_ones}

module _ (plan : PlanView) (i jobs : ℕ) where
  abbrev pub reads_to : ℕ → ℕ
  reads_to e = sum_below (λ n. length (reads_of plan i n 0 (take e plan.graph.edges))) jobs

  abbrev pub writes_to : ℕ → ℕ
  writes_to e = sum_below (λ n. length (writes_of plan i n 0 (take e plan.graph.edges))) jobs

  pub reads_begin : sum_below (λ n. length (reads_of plan i n 0 (take 0 plan.graph.edges))) jobs ≡ 0
  reads_begin = sum_none (λ n. length (reads_of plan i n 0 (take 0 plan.graph.edges))) jobs (λ n. refl)

  pub writes_begin : sum_below (λ n. length (writes_of plan i n 0 (take 0 plan.graph.edges))) jobs ≡ 0
  writes_begin = sum_none (λ n. length (writes_of plan i n 0 (take 0 plan.graph.edges))) jobs (λ n. refl)

  module _ (e : ℕ) (inside : e < length plan.graph.edges) where
    pub reads_add : (edge_at plan.graph e).to.0 ≡ i → reads_to (e + 1)
        ≡ reads_to e + sum_below (λ n. length (reading plan e (edge_at plan.graph e) (operand_of (edge_at plan.graph e) n))) jobs
    reads_add to =
        sum_plus (λ n. length (reads_of plan i n 0 (take (e + 1) plan.graph.edges))) (λ n. length (reads_of plan i n 0 (take e plan.graph.edges)))
        (λ n. length (reading plan e (edge_at plan.graph e) (operand_of (edge_at plan.graph e) n))) jobs (λ n _. reads_more plan i n e inside to)

    pub reads_stay : ((edge_at plan.graph e).to.0 ≡ i → ⊥) → reads_to (e + 1) ≡ reads_to e
    reads_stay differs =
        sum_same (λ n. length (reads_of plan i n 0 (take (e + 1) plan.graph.edges))) (λ n. length (reads_of plan i n 0 (take e plan.graph.edges))) jobs
        (λ n _. reads_same plan i n e inside differs)

    pub writes_add : ComesFrom (edge_at plan.graph e).from i → writes_to (e + 1)
        ≡ writes_to e + sum_below (λ n. length (if is_some (place_on plan e n) then both_writes plan e n else [])) jobs
    writes_add comes =
        sum_plus (λ n. length (writes_of plan i n 0 (take (e + 1) plan.graph.edges))) (λ n. length (writes_of plan i n 0 (take e plan.graph.edges)))
        (λ n. length (if is_some (place_on plan e n) then both_writes plan e n else [])) jobs (λ n _. writes_more plan i n e inside comes)

    pub writes_stay : (ComesFrom (edge_at plan.graph e).from i → ⊥) → writes_to (e + 1) ≡ writes_to e
    writes_stay never =
        sum_same (λ n. length (writes_of plan i n 0 (take (e + 1) plan.graph.edges))) (λ n. length (writes_of plan i n 0 (take e plan.graph.edges))) jobs
        (λ n _. writes_same plan i n e inside never)

  pub all_counted : (e : ℕ) → e ≡ length plan.graph.edges → sum_below (λ n. length (actions_of plan i n)) jobs ≡ jobs + reads_to e + writes_to e
  all_counted e is =
      let whole : take e plan.graph.edges ≡ plan.graph.edges = take_all e plan.graph.edges (omega (arith, is)) in
      let first = sum_plus (λ n. length (actions_of plan i n)) (λ n. 1 + length (reads_of plan i n 0 plan.graph.edges)) (λ n. length (writes_of plan i n 0 plan.graph.edges)) jobs
      (λ n _. all_actions_long plan i n) in
      let second = sum_plus (λ n. 1 + length (reads_of plan i n 0 plan.graph.edges)) (λ n. 1) (λ n. length (reads_of plan i n 0 plan.graph.edges)) jobs (λ n _. refl) in
      let ones = sum_ones (λ n. 1) jobs (λ n. refl) in
      let reads = sum_same (λ n. length (reads_of plan i n 0 (take e plan.graph.edges))) (λ n. length (reads_of plan i n 0 plan.graph.edges)) jobs
      (λ n _. ap (λ l. length (reads_of plan i n 0 l)) whole) in
      let writes = sum_same (λ n. length (writes_of plan i n 0 (take e plan.graph.edges))) (λ n. length (writes_of plan i n 0 plan.graph.edges)) jobs
      (λ n _. ap (λ l. length (writes_of plan i n 0 l)) whole) in
      omega (arith, first, second, ones, reads, writes)
