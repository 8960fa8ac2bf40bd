use Rattle.std.proofs.Common.{◌≡◌, ◌∙◌, ap, length, subst, List}
use Rattle.prl_plan.specs.declared.graphs.Edge.{Edge}
use Rattle.test_calls.specs.Devices.{AreIntEdges}
use Rattle.test_calls.proofs.Served.{served}
use Rattle.test_calls.proofs.devices.are_served.Goals as goal

pub returns-clause-rows : goal.returns-clause-rows
returns-clause-rows c = λ is.
    let graph = c.args.plan.now.graph in
    let edges : c.as_slice-2.result.now ≡ graph.edges = c.as_slice-2.ensures ∙ ap (λ g. g.edges) c.graph-graph.ensures.graph in
    let ints : AreIntEdges (length graph.edges) graph.edges =
    subst (λ (list : List Edge). AreIntEdges (length list) list) edges (c.are_int_edges.ensures c.if-not-are_int_edges.false) in
    served graph c.args.horizon.until c.args.rows.now c.plan_is_one.ensures.graph
    (c.horizon_jobs_are_counted.ensures graph c.args.horizon.until) ints (c.have_rows.ensures is)
