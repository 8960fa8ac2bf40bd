use Rattle.std.proofs.Common.{arith}
use Rattle.prl_graph.proofs.Counts.{all_ports, ports_more}
use Rattle.prl_graph.proofs.Lists.{item_of, same_length}
use Rattle.prl_graph.proofs.graphs.count_ports.Goals as goal

pub loop-app-preserved : goal.loop-app-preserved
loop-app-preserved c =
    let count = same_length c.apps-app-items.result.now c.args.flat.now.apps c.apps-app-items.ensures.apps in
    let more = ports_more c.args.flat.now.apps c.loop-app.app-index c.app-item.result
    (item_of c.apps-app-items.result.now c.args.flat.now.apps c.loop-app.app-index c.app-item.result c.apps-app-items.ensures.apps (omega arith) c.app-item.is) in
    omega arith

pub returns : goal.returns
returns c =
    let count = same_length c.apps-app-items.result.now c.args.flat.now.apps c.apps-app-items.ensures.apps in
    let all = all_ports c.args.flat.now c.loop-app.app-index (omega arith) in
    omega arith
