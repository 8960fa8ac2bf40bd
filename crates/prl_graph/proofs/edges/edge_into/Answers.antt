use Rattle.std.proofs.Common.{refl, ap}
use Rattle.prl_base.specs.declared.operators.Clock.{Clock}
use Rattle.prl_flow.specs.declared.programs.Flow.{Flow}
use Rattle.prl_graph.proofs.Edging.{edge_of}
use Rattle.prl_graph.proofs.Lists.{item_of}
use Rattle.prl_graph.proofs.Walks.{end_within}
use Rattle.prl_graph.proofs.Ways.{same_flow}
use Rattle.prl_graph.proofs.edges.edge_into.Goals as goal

pub returns : goal.returns
returns c =
    let p = c.args.flat.now in
    let source = c.in_ok-way.way.source.0 in
    let below = end_within p c.flows-flows.ensures.well_formed c.args.flow.0 source c.in_ok-way.way.ops c.in_ok-way.ensures.leads c.requires.within in
    let found = item_of c.flows-flows.result.now p.flows source c.index-flows-source.result c.flows-flows.ensures.flows below c.index-flows-source.is in
    edge_of p c.args.clocks.now.of c.args.to c.args.port c.args.flow.0 source c.in_ok-way.way.ops _ c.in_ok-way.ensures c.producer-from.ensures refl refl refl
    (ap (λ (k : Clock). k.period) c.clock_of.ensures) (λ f there. ap (λ (x : Flow). x.ty) (same_flow p source c.index-flows-source.result f found there))
