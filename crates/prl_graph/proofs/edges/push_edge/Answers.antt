use Rattle.prl_graph.proofs.Edging.{adds_one}
use Rattle.prl_graph.proofs.edges.push_edge.Goals as goal

pub returns : goal.returns
returns c =
    adds_one c.args.flat.now c.args.clocks.now.of (record { task = c.args.to; port = c.args.port; flow = c.args.flow.0 }) c.in_ok-edge.edge c.args.edges.now.items c.push.new.self.items
    c.in_ok-edge.ensures c.in_ok-push.ensures.items
