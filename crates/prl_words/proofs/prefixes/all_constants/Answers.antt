use Rattle.prl_base.proofs.Standard.{◌≡◌, ◌+◌, ◌<◌, ◌≤◌, List, Some, length, take, get_or, ap, ◌∙◌, arith, slice_get, sum_by, sum_by_more}
use Rattle.prl_plan.specs.FirstReaders.{first_reader}
use Rattle.prl_plan.specs.declared.graphs.Edge.{Edge}
use Rattle.prl_words.proofs.Constants.{edge_bound, edge_few, edge_jobs, edge_read}
use Rattle.prl_words.proofs.prefixes.all_constants.Goals as goal

pub constants-count-requires-clause-counts : goal.constants-count-requires-clause-counts
constants-count-requires-clause-counts c =
    edge_jobs c.args.graph.now c.requires.well _ c.loop-edge.edge-index c.edge-item.result c.as_slice-edge-items.ensures c.loop-edge-test.true c.edge-item.is _ c.as_slice.ensures

pub constants-count-requires-clause-few : goal.constants-count-requires-clause-few
constants-count-requires-clause-few c =
    edge_few c.args.graph.now c.requires.well _ c.loop-edge.edge-index c.edge-item.result c.as_slice-edge-items.ensures c.loop-edge-test.true c.edge-item.is _ c.as_slice.ensures

pub overflow_add-count : goal.overflow_add-count
overflow_add-count c =
    let graph = c.args.graph.now in
    let edge = c.edge-item.result in
    let found : slice_get graph.edges c.loop-edge.edge-index ≡ Some edge =
    edge_read c.as_slice-edge-items.result.now graph.edges c.loop-edge.edge-index edge c.as_slice-edge-items.ensures c.loop-edge-test.true c.edge-item.is in
    let bound : first_reader edge.ops ≤ 100000000000000 = edge_bound graph c.requires.well c.loop-edge.edge-index edge found in
    let same : c.constants-count.result ≡ first_reader edge.ops = c.constants-count.ensures ∙ ap first_reader c.as_slice.ensures in
    omega (arith, bound, same, c.loop-edge.invariant.1, c.requires.well.few_edges, ap length c.as_slice-edge-items.ensures)

pub loop-edge-preserved : goal.loop-edge-preserved
loop-edge-preserved c =
    let graph = c.args.graph.now in
    let i = c.loop-edge.edge-index in
    let edge = c.edge-item.result in
    let below : i < length graph.edges = omega (arith, ap length c.as_slice-edge-items.ensures) in
    let found : slice_get graph.edges i ≡ Some edge = edge_read c.as_slice-edge-items.result.now graph.edges i edge c.as_slice-edge-items.ensures c.loop-edge-test.true c.edge-item.is in
    let bound : first_reader edge.ops ≤ 100000000000000 = edge_bound graph c.requires.well i edge found in
    let same : c.constants-count.result ≡ first_reader edge.ops = c.constants-count.ensures ∙ ap first_reader c.as_slice.ensures in
    let f = (λ (e : Edge). first_reader e.ops) in
    let more : sum_by f (take (i + 1) graph.edges) ≡ sum_by f (take i graph.edges) + f (get_or graph.edges i edge) = sum_by_more f graph.edges i edge below in
    let here : first_reader edge.ops ≡ first_reader (get_or graph.edges i edge).ops = ap (λ (e : Edge). first_reader e.ops) (c.edge-item.is ∙ ap (λ (es : List Edge). get_or es i edge) c.as_slice-edge-items.ensures) in
    (omega (arith, same, more, here, c.loop-edge.invariant.0), omega (arith, same, bound, c.loop-edge.invariant.1))
