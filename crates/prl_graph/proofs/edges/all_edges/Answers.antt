use Rattle.prl_graph.proofs.Edging.{all_made}
use Rattle.prl_graph.proofs.edges.all_edges.Goals as goal

pub returns : goal.returns
returns c =
    all_made c.args.flat.now c.args.clocks.now.of c.new-edges.result.items c.push_applications.new.edges.items c.push_actuators.new.edges.items c.new-edges.ensures.items
    c.in_ok-push_applications.ensures c.in_ok-push_actuators.ensures
