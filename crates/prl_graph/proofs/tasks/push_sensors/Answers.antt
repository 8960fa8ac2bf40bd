use Rattle.std.proofs.Common.{◌≡◌, arith}
use Rattle.prl_graph.specs.Ports.{node_no}
use Rattle.prl_graph.proofs.Lists.{same_length}
use Rattle.prl_graph.proofs.Tasking.{one_sensor, renumbered}
use Rattle.prl_graph.proofs.tasks.push_sensors.Goals as goal

pub loop-k-preserved : goal.loop-k-preserved
loop-k-preserved c =
    one_sensor c.args.flat.now c.args.clocks.now.of c.loop-k.k c.loop-k.tasks.items c.push.new.self.items c.in_ok-task.task c.loop-k.invariant c.in_ok-task.ensures c.in_ok-push.ensures.items

pub returns : goal.returns
returns c =
    let count = same_length c.ins-ins.result.now c.args.flat.now.ins c.ins-ins.ensures in
    let number : c.loop-k.k ≡ node_no c.args.flat.now 0 = omega arith in
    renumbered c.args.flat.now c.args.clocks.now.of c.loop-k.k (node_no c.args.flat.now 0) c.loop-k.tasks.items number c.loop-k.invariant
