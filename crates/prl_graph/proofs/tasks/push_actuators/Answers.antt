use Rattle.std.proofs.Common.{◌≡◌, arith}
use Rattle.prl_graph.specs.Ports.{actuator_no, task_count}
use Rattle.prl_graph.proofs.Lists.{same_length}
use Rattle.prl_graph.proofs.Tasking.{one_actuator, renumbered}
use Rattle.prl_graph.proofs.tasks.push_actuators.Goals as goal

pub loop-k-preserved : goal.loop-k-preserved
loop-k-preserved c =
    one_actuator c.args.flat.now c.args.clocks.now.of c.loop-k.k c.loop-k.tasks.items c.push.new.self.items c.in_ok-task.task c.loop-k.invariant c.in_ok-task.ensures c.in_ok-push.ensures.items

pub returns : goal.returns
returns c =
    let count = same_length c.outs-outs.result.now c.args.flat.now.outs c.outs-outs.ensures.outs in
    let number : actuator_no c.args.flat.now c.loop-k.k ≡ task_count c.args.flat.now = omega arith in
    renumbered c.args.flat.now c.args.clocks.now.of (actuator_no c.args.flat.now c.loop-k.k) (task_count c.args.flat.now) c.loop-k.tasks.items number c.loop-k.invariant
