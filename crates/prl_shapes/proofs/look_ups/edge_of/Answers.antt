use Rattle.std.proofs.lemmas.Option.{slice_get-get_or}
use Rattle.prl_plan.specs.Plans.{edge_at, no_edge}
use Rattle.prl_shapes.proofs.look_ups.edge_of.Goals as goal

pub returns-clause-fits : goal.returns-clause-fits
returns-clause-fits c =
    let graph = c.args.plan.now.graph in
    c.plan_is_one.ensures.graph.edges c.args.e.0 (edge_at graph c.args.e.0) (slice_get-get_or graph.edges c.args.e.0 no_edge c.requires)
