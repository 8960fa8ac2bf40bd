use Rattle.std.proofs.Common.{◌+◌, length, arith, take, get_or}
use Rattle.prl_base.specs.declared.numbers.FlowNo.{FlowNo}
use Rattle.prl_graph.specs.Ports.{actuator_no, actuator_ports}
use Rattle.prl_graph.proofs.Edging.{adds_none, adds_output, outputs_taken, same_ports}
use Rattle.prl_graph.proofs.Lists.{element_of, same_length}
use Rattle.prl_graph.proofs.edges.push_actuators.Goals as goal

pub loop-k-init : goal.loop-k-init
loop-k-init c = adds_none c.args.flat.now c.args.clocks.now.of c.args.edges.now.items

pub loop-k-preserved : goal.loop-k-preserved
loop-k-preserved c =
    let none : FlowNo = record { 0 = 0 } in
    let ins = same_length c.ins-ins.result.now c.args.flat.now.ins c.ins-ins.ensures in
    let apps = same_length c.apps-apps.result.now c.args.flat.now.apps c.apps-apps.ensures.apps in
    let outs = c.outs-outs.result.now in
    adds_output c.args.flat.now c.args.clocks.now.of c.loop-k.k (length c.ins-ins.result.now + length c.apps-apps.result.now + c.loop-k.k) (get_or outs c.loop-k.k none)
    c.args.edges.now.items c.loop-k.edges.items c.push_edge.new.edges.items (omega arith) (element_of outs c.args.flat.now.outs c.loop-k.k none c.outs-outs.ensures.outs c.loop-k-test.true)
    c.loop-k.invariant c.in_ok-push_edge.ensures

pub returns : goal.returns
returns c =
    let count = same_length c.outs-outs.result.now c.args.flat.now.outs c.outs-outs.ensures.outs in
    same_ports c.args.flat.now c.args.clocks.now.of (actuator_ports (actuator_no c.args.flat.now 0) (take c.loop-k.k c.args.flat.now.outs)) (actuator_ports (actuator_no c.args.flat.now 0) c.args.flat.now.outs)
    c.args.edges.now.items c.loop-k.edges.items (outputs_taken (actuator_no c.args.flat.now 0) c.loop-k.k c.args.flat.now.outs (omega arith)) c.loop-k.invariant

pub overflow_add-to : goal.overflow_add-to
overflow_add-to c =
    let ins = same_length c.ins-ins.result.now c.args.flat.now.ins c.ins-ins.ensures in
    let apps = same_length c.apps-apps.result.now c.args.flat.now.apps c.apps-apps.ensures.apps in
    omega (arith, ins, apps, c.requires.few)

pub overflow_add-to-in-loop-k : goal.overflow_add-to-in-loop-k
overflow_add-to-in-loop-k c =
    let ins = same_length c.ins-ins.result.now c.args.flat.now.ins c.ins-ins.ensures in
    let apps = same_length c.apps-apps.result.now c.args.flat.now.apps c.apps-apps.ensures.apps in
    let outs = same_length c.outs-outs.result.now c.args.flat.now.outs c.outs-outs.ensures.outs in
    omega (arith, ins, apps, outs, c.loop-k-test.true, c.requires.few)

pub overflow_cast-to : goal.overflow_cast-to
overflow_cast-to c =
    let ins = same_length c.ins-ins.result.now c.args.flat.now.ins c.ins-ins.ensures in
    let apps = same_length c.apps-apps.result.now c.args.flat.now.apps c.apps-apps.ensures.apps in
    let outs = same_length c.outs-outs.result.now c.args.flat.now.outs c.outs-outs.ensures.outs in
    omega (arith, ins, apps, outs, c.loop-k-test.true, c.requires.few)

pub push_edge-requires-clause-within : goal.push_edge-requires-clause-within
push_edge-requires-clause-within c =
    let none : FlowNo = record { 0 = 0 } in
    let outs = c.outs-outs.result.now in
    c.outs-outs.ensures.well_formed.outs c.loop-k.k (get_or outs c.loop-k.k none) (element_of outs c.args.flat.now.outs c.loop-k.k none c.outs-outs.ensures.outs c.loop-k-test.true)
