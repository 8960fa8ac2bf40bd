use Rattle.std.proofs.Common.{◌+◌, length, arith, take}
use Rattle.prl_graph.specs.Ports.{application_ports, node_no}
use Rattle.prl_graph.proofs.Edging.{adds_application, adds_none, applications_taken, same_ports}
use Rattle.prl_graph.proofs.Lists.{same_length}
use Rattle.prl_graph.proofs.edges.push_applications.Goals as goal

pub loop-k-init : goal.loop-k-init
loop-k-init c = adds_none c.args.flat.now c.args.clocks.now.of c.args.edges.now.items

pub loop-k-preserved : goal.loop-k-preserved
loop-k-preserved c =
    let count = same_length c.ins-ins.result.now c.args.flat.now.ins c.ins-ins.ensures in
    adds_application c.args.flat.now c.args.clocks.now.of c.loop-k.k (length c.ins-ins.result.now + c.loop-k.k) c.arguments.result.now c.args.edges.now.items c.loop-k.edges.items c.push_arguments.new.edges.items
    (omega arith) c.arguments.ensures.are c.loop-k.invariant c.in_ok-push_arguments.ensures

pub returns : goal.returns
returns c =
    let count = same_length c.apps-apps.result.now c.args.flat.now.apps c.apps-apps.ensures.apps in
    same_ports c.args.flat.now c.args.clocks.now.of (application_ports (node_no c.args.flat.now 0) (take c.loop-k.k c.args.flat.now.apps)) (application_ports (node_no c.args.flat.now 0) c.args.flat.now.apps)
    c.args.edges.now.items c.loop-k.edges.items (applications_taken (node_no c.args.flat.now 0) c.loop-k.k c.args.flat.now.apps (omega arith)) c.loop-k.invariant
