use Rattle.prl_base.proofs.Standard.{◌≡◌, ℕ, List, length, sum, take, ap, sym, ◌∙◌, subst, arith, sum_by-take-le}
use Rattle.prl_plan.specs.Vocabulary.{EnumeratesUsed, ListsSums}
use Rattle.prl_buffers.specs.code.Edges.{HasLeastCount}
use Rattle.prl_buffers.proofs.EdgeNumbers.{numbers_small}
use Rattle.prl_buffers.proofs.EdgeCells.{some_gap, sum_small, enumerates_cut, least_cut}
use Rattle.prl_buffers.proofs.edges.cells_from.Goals as goal

pub turn_on-requires : goal.turn_on-requires
turn_on-requires c = (c.args.dates.now, c.args.i.0, c.requires.planned, c.requires.comes)

pub number-first-requires-clause-fits : goal.number-first-requires-clause-fits
number-first-requires-clause-fits c =
    omega (arith, numbers_small c.args.graph.now c.args.dates.now c.args.edge.now c.args.word.now c.requires.planned c.args.i.0 c.requires.comes 0 (omega arith))

pub shortened-gaps-requires : goal.shortened-gaps-requires
shortened-gaps-requires c =
    some_gap c.args.graph.now c.args.dates.now c.args.edge.now c.args.word.now c.requires.planned c.args.i.0 c.requires.comes c.in_ok-turn.turn.gaps c.in_ok-turn.turn.last c.in_ok-turn.ensures

pub sums_of-requires : goal.sums_of-requires
sums_of-requires c =
    let small = sum_small c.args.graph.now c.args.dates.now c.args.edge.now c.args.word.now c.requires.planned c.args.i.0 c.requires.comes c.in_ok-turn.turn.gaps c.in_ok-turn.turn.last c.in_ok-turn.ensures in
    let same : sum c.as_slice.result.now ≡ sum (take (length c.shortened-gaps.result) c.in_ok-turn.turn.gaps) = ap sum (c.as_slice.ensures ∙ c.shortened-gaps.ensures.front) in
    let less = sum_by-take-le (λ y. y) c.in_ok-turn.turn.gaps (length c.shortened-gaps.result) in
    omega (arith, small, same, less)

pub returns : goal.returns
returns c =
    let enumerates = enumerates_cut c.args.graph.now c.args.dates.now c.args.edge.now c.args.word.now c.requires.planned c.args.i.0 c.requires.comes
    c.in_ok-turn.turn.gaps c.in_ok-turn.turn.last c.in_ok-turn.ensures c.shortened-gaps.result c.shortened-gaps.ensures in
    let least = least_cut c.args.graph.now c.args.dates.now c.args.edge.now c.args.word.now c.requires.planned c.args.i.0 c.requires.comes
    c.in_ok-turn.turn.gaps c.in_ok-turn.turn.last c.in_ok-turn.ensures c.shortened-gaps.result c.shortened-gaps.ensures c.in_ok-count.count c.in_ok-count.ensures in
    record {
      enumerates = subst (λ (x : ℕ). EnumeratesUsed c.args.edge.now (record { first = x; gaps = c.shortened-gaps.result })) (sym c.number-first.ensures) enumerates;
      count_is = subst (λ (x : ℕ). HasLeastCount c.args.graph.now c.args.dates.now c.args.edge.now c.args.i.0 (record { first = x; gaps = c.shortened-gaps.result }) c.in_ok-count.count) (sym c.number-first.ensures) least;
      short = c.shortened-gaps.ensures.shortest;
      summed = subst (λ (l : List ℕ). ListsSums l c.in_ok-sums.sums) c.as_slice.ensures c.in_ok-sums.ensures;
    }
