use Rattle.std.proofs.Common.{rules, ◌≡◌, ◌+◌, ◌*◌, ◌^◌, ◌++◌, [], ◌∷◌, length, sum, ap, subst, arith}
use Rattle.prl_buffers.specs.code.Tables.{AreListed}
use Rattle.prl_buffers.proofs.TurnSteps.{sum_push}
use Rattle.prl_buffers.proofs.TableSteps.{item_at, planned, one_more}
use Rattle.prl_buffers.proofs.tables.listed.Goals as goal

pub cells_of-requires : goal.cells_of-requires
cells_of-requires c =
    let inside = c.loop-e-test.true in
    let edges : length c.as_slice-edges.result.now ≡ length c.args.graph.now.edges = ap length c.as_slice-edges.ensures in
    let words : length c.as_slice-words.result.now ≡ length c.args.words.now.of = ap length c.as_slice-words.ensures in
    let long = c.requires.are_words.long in
    planned c.args.graph.now c.args.words.now.of c.args.dates.now c.requires c.loop-e.e c.index-edges-e.result c.index-words-e.result
    (item_at c.args.graph.now.edges c.as_slice-edges.result.now c.loop-e.e c.index-edges-e.result c.as_slice-edges.ensures inside c.index-edges-e.is)
    (item_at c.args.words.now.of c.as_slice-words.result.now c.loop-e.e c.index-words-e.result c.as_slice-words.ensures (omega (arith, inside, edges, words, long)) c.index-words-e.is)

pub push_cells-requires : goal.push_cells-requires
push_cells-requires c =
    let edges : length c.as_slice-edges.result.now ≡ length c.args.graph.now.edges = ap length c.as_slice-edges.ensures in
    omega (arith, c.loop-e.invariant.small, c.in_ok-cells_of.ensures.small, c.loop-e-test.true, edges, c.requires.well.few_edges)

pub loop-e-preserved : goal.loop-e-preserved
loop-e-preserved c =
    let inv = c.loop-e.invariant in
    let pushed = c.in_ok-push_cells.ensures in
    let one = c.in_ok-cells_of.ensures in
    let e : (c.loop-e.e + 1) * 2 ^ 51 ≡ c.loop-e.e * 2 ^ 51 + 2 ^ 51 = omega arith in
    let at = item_at c.args.graph.now.edges c.as_slice-edges.result.now c.loop-e.e c.index-edges-e.result c.as_slice-edges.ensures c.loop-e-test.true c.index-edges-e.is in
    record {
      are = rw (pushed.counts, pushed.used, pushed.sums) (one_more c.args.graph.now c.args.dates.now c.loop-e.e c.loop-e.list.counts.items c.loop-e.list.used.items c.loop-e.list.sums.items
          c.index-edges-e.result _ _ _ inv.are at one);
      total_is = omega (arith, inv.total_is, sum_push c.loop-e.list.counts.items c.in_ok-cells_of.field-0.count, ap sum pushed.counts, c.push_cells.ensures.total);
      small = omega (arith, inv.small, one.small, e);
    }

pub returns : goal.returns
returns c =
    let end : c.loop-e.e ≡ length c.args.graph.now.edges =
    (let l : length c.as_slice-edges.result.now ≡ length c.args.graph.now.edges = ap length c.as_slice-edges.ensures in omega (arith, c.loop-e-test.false, c.loop-e.auto.e-end, l)) in
    (subst (λ i. AreListed c.args.graph.now c.args.dates.now i c.loop-e.list.counts.items c.loop-e.list.used.items c.loop-e.list.sums.items) end c.loop-e.invariant.are, c.loop-e.invariant.total_is)
