use Rattle.prl_base.proofs.Standard.{ℕ, ◌≡◌, ◌<◌, ◌≤◌, ◌∙◌, ap, arith, length, map, subst, sym, range_with_len}
use Rattle.prl_ast.specs.Trees.{NodeTree, node_tree, program_tree}
use Rattle.prl_ast.specs.declared.declarations.Program.{Program}
use Rattle.prl_flow.specs.Vocabulary.{IsFlat, IsSolution}
use Rattle.prl_causal.specs.Vocabulary.{node_at, Satisfies, state_in}
use Rattle.prl_expand.specs.Vocabulary.{IsOneToOne, devices_of, flat_of, flow_no, number_of}
use Rattle.prl_expand.proofs.Adding.{numbers_are}
use Rattle.prl_expand.proofs.Whole.{a_flat, expansion_is, flat_is, main_node, there_in, whole}
use Rattle.prl_expand.proofs.expanding.expand.Goals as goal
use Rattle.prl_expand.proofs.expanding.expand.Goals.{After-new-4}

-- main's node
node_is : (c : After-new-4) → node_at (program_tree c.args.typed.now.program) c.args.typed.now.main ≡ node_tree c.node_at-node.result.now
node_is c = main_node c.program-program.result.now c.args.typed.now.program c.main.result c.args.typed.now.main (node_tree c.node_at-node.result.now) c.program-program.ensures c.main.ensures.main c.node_at-node.ensures

-- what has been made is the flat program of the whole expansion
flat : (c : After-new-4) → a_flat c.new.result c.new-2.result c.new-3.result c.new-4.result c.in_ok-devices.devices.0.items c.in_ok-devices.devices.1.items
    ≡ flat_of (program_tree c.args.typed.now.program) c.args.typed.now.types c.args.typed.now.main (whole (program_tree c.args.typed.now.program) c.args.typed.now.main c.args.typed.now.types c.main.ensures.right)
flat c =
    let p = program_tree c.args.typed.now.program in
    let main = c.args.typed.now.main in
    let made = c.in_ok-made.ensures.made in
    let d = node_tree c.node_at-node.result.now in
    let is = sym (node_is c) in
    let outs = ap (map number_of) c.as_slice.ensures.value ∙ numbers_are c.in_ok-made.made.1.items ∙ ap (map flow_no) made.outs_are in
    flat_is p main c.args.typed.now.types c.main.ensures.right c.new.result c.new-2.result c.new-3.result c.new-4.result c.in_ok-devices.devices.0.items c.in_ok-devices.devices.1.items
    (c.new.ensures ∙ made.flows_are) (c.new-2.ensures ∙ made.apps_are)
    (c.new-3.ensures ∙ c.in_ok-ends.ensures.ins ∙ ap (λ n. map flow_no (range_with_len 0 n)) c.len.ensures ∙ ap (λ (x : NodeTree). map flow_no (range_with_len 0 (length x.ins))) is)
    (c.new-4.ensures ∙ c.in_ok-ends.ensures.outs ∙ outs)
    (c.in_ok-devices.ensures.ins ∙ ap (λ (x : Program). devices_of x.sensors d.ins) c.program-program.ensures ∙ ap (λ (x : NodeTree). devices_of p.sensors x.ins) is)
    (c.in_ok-devices.ensures.outs ∙ ap (λ (x : Program). devices_of x.actuators d.outs) c.program-program.ensures ∙ ap (λ (x : NodeTree). devices_of p.actuators x.outs) is)

pub new-requires-5 : goal.new-requires-5
new-requires-5 c =
    let p = program_tree c.args.typed.now.program in
    let tys = c.args.typed.now.types in
    let main = c.args.typed.now.main in
    let right = c.main.ensures.right in
    subst IsFlat (sym (flat (goal.at.new-requires-5 c).After-new-4)) (c.flats_are_well_formed.ensures p right.main main tys (whole p main tys right) c.main.ensures.range right.typed
    (expansion_is p main tys right) c.in_ok-made.ensures.made.few)

pub returns-clause-exact : goal.returns-clause-exact
returns-clause-exact c =
    let p = program_tree c.args.typed.now.program in
    let tys = c.args.typed.now.types in
    let main = c.args.typed.now.main in
    let right = c.main.ensures.right in
    record { expansion = whole p main tys right; is = expansion_is p main tys right; few = c.in_ok-made.ensures.made.few; flat_is = c.new-5.ensures ∙ flat (goal.at.returns-clause-exact c).After-new-4 }

pub returns-clause-kept : goal.returns-clause-kept
returns-clause-kept c = λ bodies rows until.
    (let p = program_tree c.args.typed.now.program in
    let tys = c.args.typed.now.types in
    let main = c.args.typed.now.main in
    let right = c.main.ensures.right in
    subst (λ f. IsOneToOne (Satisfies p main bodies rows until) (IsSolution f bodies rows until) state_in) (sym (c.new-5.ensures ∙ flat (goal.at.returns-clause-kept c).After-new-4))
    (c.behaviours_are_solutions.ensures p right.main main tys (whole p main tys right) right.typed (expansion_is p main tys right) bodies rows until))

pub node_at-node-requires : goal.node_at-node-requires
node_at-node-requires c =
    there_in c.program-program.result.now c.args.typed.now.program c.main.result c.args.typed.now.main c.args.typed.now.types c.main.ensures.right c.program-program.ensures c.main.ensures.main

pub both_ends-requires : goal.both_ends-requires
both_ends-requires c =
    let is = main_node c.program-program.result.now c.args.typed.now.program c.main.result c.args.typed.now.main (node_tree c.node_at-node.result.now) c.program-program.ensures c.main.ensures.main c.node_at-node.ensures in
    omega (arith, c.len.ensures, c.in_ok-made.ensures.made.few_ins, ap (λ (x : NodeTree). length x.ins) is)
