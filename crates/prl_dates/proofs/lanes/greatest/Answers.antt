use Rattle.prl_base.proofs.Standard.{◌≡◌, ◌+◌, ◌<◌, ℕ, List, length, get_or, Some, true, false, Vec, Global, sym, ap, subst, ◌∙◌, arith, ℤ, pos, slice_get, slice_index_or, int_max, get_or_default}
use Rattle.prl_base.proofs.Standard.{with_items_is}
use Rattle.prl_base.specs.declared.operators.Op.{Op}
use Rattle.prl_plan.specs.Vocabulary.{IsWellFormed, preceding, PrecedingFits}
use Rattle.prl_plan.specs.declared.graphs.Edge.{Edge}
use Rattle.prl_plan.specs.declared.graphs.TaskGraph.{TaskGraph}
use Rattle.prl_plan.proofs.ReaderLaws.{preceding_rises}
use Rattle.prl_dates.specs.Vocabulary.{jobs_of, Joins, AreGreatest, Rises}
use Rattle.prl_dates.proofs.Readings.{item_stands}
use Rattle.prl_dates.proofs.LaneSteps.{joins_edge, joins_inside, joined_fits, greatest_first, greatest_more, greatest_same}
use Rattle.prl_dates.proofs.lanes.greatest.Goals as goal
use Rattle.prl_dates.proofs.lanes.greatest.Goals.{After-as_slice, After-as_slice-then-joins, then-joins+in_ok-others, else-joins}

pub jobs_of-jobs-requires-clause-task : goal.jobs_of-jobs-requires-clause-task
jobs_of-jobs-requires-clause-task c = (joins_inside c.args.graph.now c.requires.well c.args.from.0 c.args.to.0 c.args.e c.requires.joins).1

-- the edge that joins the two
first_joins : (c : After-as_slice) → Joins c.args.graph.now c.args.from.0 c.args.to.0 (get_or c.as_slice-edges.result.now c.args.e c.index-edges-e.result)
first_joins c =
    let graph = c.args.graph.now in
    let edge : Edge = get_or c.as_slice-edges.result.now c.args.e c.index-edges-e.result in
    joins_edge graph c.requires.well c.args.from.0 c.args.to.0 c.args.e c.requires.joins edge
    (ap (λ (es : List Edge). get_or es c.args.e c.index-edges-e.result) c.as_slice-edges.ensures ∙ get_or_default graph.edges c.args.e c.index-edges-e.result edge c.requires.joins.inside)

edge_stands : (edges seen : List Edge) (k : ℕ) (edge : Edge) → seen ≡ edges → k < length seen → edge ≡ get_or seen k edge → slice_get edges k ≡ Some edge
edge_stands edges seen k edge same inside is = subst (λ (es : List Edge). slice_get es k ≡ Some edge) same (item_stands seen k edge inside is)

next_joins : (c : After-as_slice-then-joins) → Joins c.args.graph.now c.args.from.0 c.args.to.0 c.edge-item.result
next_joins c =
    let both = c.joins.ensures.0 c.if-joins.true in
    let stands = edge_stands c.args.graph.now.edges c.as_slice-edges.result.now c.loop-edge.edge-index c.edge-item.result c.as_slice-edges.ensures c.loop-edge-test.true c.edge-item.is in
    record { stands = (c.loop-edge.edge-index, stands); from = both.0; to = both.1 }

-- what the operators of such an edge give
edge_fits : (graph : TaskGraph) (good : IsWellFormed graph) (i j : ℕ) (edge : Edge) → Joins graph i j edge → (ops : List Op) → ops ≡ edge.ops → (n : ℕ) → n < jobs_of graph j →
    PrecedingFits ops (pos n)
edge_fits graph good i j edge joins ops same n below = subst (λ (os : List Op). PrecedingFits os (pos n)) (sym same) (joined_fits graph good i j edge joins n below)

edge_rises : (graph : TaskGraph) → IsWellFormed graph → (i j : ℕ) (edge : Edge) → Joins graph i j edge → (ops : List Op) → ops ≡ edge.ops → Rises ops
edge_rises graph good i j edge joins ops same = subst Rises (sym same) (preceding_rises edge.ty edge.ops (good.edges joins.stands.0 edge joins.stands.1).operators)

pub numbers_over-requires-clause-fits : goal.numbers_over-requires-clause-fits
numbers_over-requires-clause-fits c n below =
    edge_fits c.args.graph.now c.requires.well c.args.from.0 c.args.to.0 _ (first_joins (goal.at.numbers_over-requires-clause-fits c).After-as_slice) c.as_slice.result.now c.as_slice.ensures n
    (let j = c.jobs_of-jobs.ensures.jobs in omega (arith, j, below))

pub numbers_over-requires-clause-rises : goal.numbers_over-requires-clause-rises
numbers_over-requires-clause-rises c =
    edge_rises c.args.graph.now c.requires.well c.args.from.0 c.args.to.0 _ (first_joins (goal.at.numbers_over-requires-clause-rises c).After-as_slice) c.as_slice.result.now c.as_slice.ensures

pub loop-edge-init : goal.loop-edge-init
loop-edge-init c =
    let edge : Edge = get_or c.as_slice-edges.result.now c.args.e c.index-edges-e.result in
    let joins = first_joins (goal.at.loop-edge-init c).After-as_slice in
    greatest_first c.args.graph.now c.requires.well c.args.from.0 c.args.to.0 joins.stands.0 edge joins.stands.1 joins.from joins.to c.in_ok-numbers.numbers.items
    (c.in_ok-numbers.ensures.long ∙ c.jobs_of-jobs.ensures.jobs)
    (λ n below. c.in_ok-numbers.ensures.each n (omega (arith, c.jobs_of-jobs.ensures.jobs, below)) ∙ ap (λ (ops : List Op). preceding ops (pos n)) c.as_slice.ensures)

pub numbers_over-requires-then-joins-clause-fits : goal.numbers_over-requires-then-joins-clause-fits
numbers_over-requires-then-joins-clause-fits c n below =
    edge_fits c.args.graph.now c.requires.well c.args.from.0 c.args.to.0 _ (next_joins (goal.at.numbers_over-requires-then-joins-clause-fits c).After-as_slice-then-joins)
    c.as_slice-then-joins.result.now
    c.as_slice-then-joins.ensures n (omega (arith, c.jobs_of-jobs.ensures.jobs, below))

pub numbers_over-requires-then-joins-clause-rises : goal.numbers_over-requires-then-joins-clause-rises
numbers_over-requires-then-joins-clause-rises c =
    edge_rises c.args.graph.now c.requires.well c.args.from.0 c.args.to.0 _ (next_joins (goal.at.numbers_over-requires-then-joins-clause-rises c).After-as_slice-then-joins)
    c.as_slice-then-joins.result.now
    c.as_slice-then-joins.ensures

pub loop-edge-preserved : goal.loop-edge-preserved
loop-edge-preserved c =
    let graph = c.args.graph.now in
    let edge = c.edge-item.result in
    let k = c.loop-edge.edge-index in
    let stands = edge_stands graph.edges c.as_slice-edges.result.now k edge c.as_slice-edges.ensures c.loop-edge-test.true c.edge-item.is in
    elim c.if-joins.branch [
      | then-joins+in_ok-others w ↦
          (let both = c.joins.ensures.0 w.if-joins.true in
          let value : w.as_mut_slice.result.now ≡ c.loop-edge.numbers.items = w.as_mut_slice.ensures.value in
          let long : length w.raise.new.numbers ≡ length c.loop-edge.numbers.items = w.raise.ensures.long ∙ ap (λ (xs : List ℤ). length xs) value in
          let jobs : length c.loop-edge.numbers.items ≡ c.jobs_of-jobs.result = (let l = c.loop-edge.invariant.long in let j = c.jobs_of-jobs.ensures.jobs in omega (arith, l, j)) in
          let each : (n : ℕ) → n < length c.loop-edge.numbers.items →
          slice_index_or w.raise.new.numbers n (pos 0) ≡ int_max (slice_index_or c.loop-edge.numbers.items n (pos 0)) (preceding edge.ops (pos n)) =
          λ n below. w.raise.ensures.each n (subst (λ (xs : List ℤ). n < length xs) (sym value) below)
          ∙ ap (λ (xs : List ℤ). int_max (slice_index_or xs n (pos 0)) (slice_index_or w.as_slice-then-joins-2.result.now n (pos 0))) value
          ∙ ap (λ (xs : List ℤ). int_max (slice_index_or c.loop-edge.numbers.items n (pos 0)) (slice_index_or xs n (pos 0))) w.as_slice-then-joins-2.ensures.value
          ∙ ap (λ (z : ℤ). int_max (slice_index_or c.loop-edge.numbers.items n (pos 0)) z) (w.in_ok-others.ensures.each n (omega (arith, below, jobs)))
          ∙ ap (λ (ops : List Op). int_max (slice_index_or c.loop-edge.numbers.items n (pos 0)) (preceding ops (pos n))) w.as_slice-then-joins.ensures in
          subst (λ (v : Vec ℤ Global). AreGreatest graph c.args.from.0 c.args.to.0 (k + 1) v.items) (sym w.numbers-is)
          (subst (λ (xs : List ℤ). AreGreatest graph c.args.from.0 c.args.to.0 (k + 1) xs) (sym (with_items_is c.loop-edge.numbers w.raise.new.numbers (let o = c.loop-edge.numbers.ok.0 in omega (arith, long, o))))
          (greatest_more graph c.requires.well c.args.from.0 c.args.to.0 k edge stands both.0 both.1 c.loop-edge.numbers.items w.raise.new.numbers c.loop-edge.invariant long each)))
      | else-joins w ↦
          subst (λ (v : Vec ℤ Global). AreGreatest graph c.args.from.0 c.args.to.0 (k + 1) v.items) (sym w.numbers-is)
          (greatest_same graph c.requires.well c.args.from.0 c.args.to.0 k edge stands
          (λ from to. (let yes : c.joins.result ≡ true = c.joins.ensures.1 (from, to) in let no : c.joins.result ≡ false = w.if-joins.false in cc))
          c.loop-edge.numbers.items c.loop-edge.invariant)
    ]
