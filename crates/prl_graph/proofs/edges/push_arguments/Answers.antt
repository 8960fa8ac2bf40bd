use Rattle.std.proofs.Common.{[], ◌∷◌, get_or, refl, take}
use Rattle.prl_flow.specs.declared.programs.Arg.{Arg}
use Rattle.prl_graph.specs.Ports.{argument_ports}
use Rattle.prl_graph.proofs.Edging.{adds_both, adds_none, arguments_taken, one_argument, same_ports}
use Rattle.prl_graph.proofs.Lists.{element_of}
use Rattle.prl_graph.proofs.edges.push_arguments.Goals as goal

pub loop-j-init : goal.loop-j-init
loop-j-init c = adds_none c.args.flat.now c.args.clocks.now.of c.args.edges.now.items

pub push_edge-requires-clause-within : goal.push_edge-requires-clause-within
push_edge-requires-clause-within c =
    let none : Arg = record { flow = record { 0 = 0 }; at = record { at = 0; len = 0 } } in
    c.requires.within c.loop-j.j (get_or c.args.args.now c.loop-j.j none) (element_of c.args.args.now c.args.args.now c.loop-j.j none refl c.loop-j-test.true)

pub loop-j-preserved : goal.loop-j-preserved
loop-j-preserved c =
    let none : Arg = record { flow = record { 0 = 0 }; at = record { at = 0; len = 0 } } in
    let args = c.args.args.now in
    let j = c.loop-j.j in
    let arg = get_or args j none in
    adds_both c.args.flat.now c.args.clocks.now.of (argument_ports c.args.to 0 (take j args)) (record { task = c.args.to; port = j; flow = arg.flow.0 } ∷ [])
    _ c.args.edges.now.items c.loop-j.edges.items c.push_edge.new.edges.items
    (one_argument c.args.to args j arg (element_of args args j none refl c.loop-j-test.true)) c.loop-j.invariant c.in_ok-push_edge.ensures

pub returns : goal.returns
returns c =
    same_ports c.args.flat.now c.args.clocks.now.of (argument_ports c.args.to 0 (take c.loop-j.j c.args.args.now)) (argument_ports c.args.to 0 c.args.args.now) c.args.edges.now.items c.loop-j.edges.items
    (arguments_taken c.args.to c.loop-j.j c.args.args.now c.loop-j-test.false) c.loop-j.invariant
