use Rattle.std.proofs.Common.{◌≡◌, arith, length}
use Rattle.prl_graph.specs.Ports.{actuator_no, node_no}
use Rattle.prl_graph.proofs.Lists.{same_length}
use Rattle.prl_graph.proofs.Tasking.{one_node, renumbered}
use Rattle.prl_graph.proofs.tasks.push_nodes.Goals as goal

pub bounds-dues-k : goal.bounds-dues-k
bounds-dues-k c =
    let count = same_length c.apps-apps.result.now c.args.flat.now.apps c.apps-apps.ensures.apps in
    let dues = c.requires.dues.count in
    omega arith

pub loop-k-preserved : goal.loop-k-preserved
loop-k-preserved c =
    one_node c.args.flat.now c.args.clocks.now.of c.loop-k.k (length c.args.flat.now.flows) c.args.dues.now c.loop-k.tasks.items c.push.new.self.items c.in_ok-task.task c.requires.dues (omega arith) c.loop-k.invariant
    c.in_ok-task.ensures c.in_ok-push.ensures.items

pub returns : goal.returns
returns c =
    let count = same_length c.apps-apps.result.now c.args.flat.now.apps c.apps-apps.ensures.apps in
    let number : node_no c.args.flat.now c.loop-k.k ≡ actuator_no c.args.flat.now 0 = omega arith in
    renumbered c.args.flat.now c.args.clocks.now.of (node_no c.args.flat.now c.loop-k.k) (actuator_no c.args.flat.now 0) c.loop-k.tasks.items number c.loop-k.invariant
