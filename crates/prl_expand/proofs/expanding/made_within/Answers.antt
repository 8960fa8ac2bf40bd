use Rattle.prl_base.proofs.Standard.{ℕ, ◌≡◌, ◌<◌, ◌≤◌, ◌+◌, ◌++◌, [], ◌∙◌, ap, arith, length, map, subst, sym, range_with_len, length-map}
use Rattle.prl_ast.specs.Trees.{NodeTree, node_tree, program_tree}
use Rattle.prl_ast.specs.declared.declarations.Program.{Program}
use Rattle.prl_causal.specs.Vocabulary.{flows_in, outputs_of}
use Rattle.prl_expand.specs.Vocabulary.{entered_apps, entered_flows, sensors_from, Next, IsExpandFault, IsPast, a_node, flows_of, def_of, IsSound}
use Rattle.prl_expand.specs.Vocabulary.{MayApply}
use Rattle.prl_names.specs.Applications.{applies}
use Rattle.prl_expand.proofs.Expanded.{first}
use Rattle.prl_expand.proofs.Expressions.{err_and}
use Rattle.prl_expand.proofs.Whole.{fault_is, inputs_fault, levels_do, main_node, main_there, main_whole, sound_is, there_in, whole}
use Rattle.prl_expand.proofs.expanding.made_within.Goals as goal

-- the number of levels is that of the nodes
many_levels : (checked typed : Program) (levels : ℕ) → levels ≡ length checked.nodes → checked ≡ typed → levels ≡ length (program_tree typed).nodes
many_levels checked typed levels are same = are ∙ ap (λ (x : Program). length x.nodes) same ∙ sym (length-map typed.nodes node_tree)

pub returns-clause-made : goal.returns-clause-made
returns-clause-made c =
    let p = program_tree c.args.typed.now.program in
    let tys = c.args.typed.now.types in
    let main = c.args.typed.now.main in
    let d = node_tree c.node_at-node.result.now in
    let main_is = c.main-main.ensures.main in
    let is = main_node c.program-program.result.now c.args.typed.now.program c.main-main.result main d c.program-program.ensures main_is c.node_at-node.ensures in
    let lv = c.len-levels.result in
    let m = c.main-main.result in
    let N = c.args.names.now in
    let whole_is = main_whole N c.args.typed.now.program m main lv c.requires main_is
    (many_levels c.program-program.result.now c.args.typed.now.program lv c.len-levels.ensures c.program-program.ensures) in
    let adds = c.in_ok-outs.ensures.made in
    let sources = c.in_ok-sources.ensures ∙ ap (λ n. sensors_from 0 (range_with_len 0 n)) c.len-inputs.ensures in
    record {
      flows_are = adds.flows_are ∙ ap (λ xs. xs ++ flows_of (entered_flows (program_tree N) tys c.in_ok-label.label m (map def_of c.in_ok-sources.sources.items) (a_node (program_tree N) lv m first))) c.new-2.ensures.items
          ∙ ap (λ l. flows_of (entered_flows (program_tree N) tys l m (map def_of c.in_ok-sources.sources.items) (a_node (program_tree N) lv m first))) c.in_ok-label.ensures
          ∙ ap (λ ds. flows_of (entered_flows (program_tree N) tys [] m ds (a_node (program_tree N) lv m first))) sources
          ∙ ap (λ pr. flows_of (entered_flows (program_tree pr) tys [] m (sensors_from 0 (range_with_len 0 (length d.ins))) (a_node (program_tree N) lv m first))) c.requires
          ∙ ap (λ k. flows_of (entered_flows p tys [] k (sensors_from 0 (range_with_len 0 (length d.ins))) (a_node (program_tree N) lv m first))) main_is
          ∙ ap (λ w. flows_of (entered_flows p tys [] main (sensors_from 0 (range_with_len 0 (length d.ins))) w)) whole_is
          ∙ ap (λ (x : NodeTree). flows_of (entered_flows p tys [] main (sensors_from 0 (range_with_len 0 (length x.ins))) (a_node p (length p.nodes) main first))) (sym is);
      apps_are = adds.apps_are ∙ ap (λ xs. xs ++ entered_apps (program_tree N) m (a_node (program_tree N) lv m first)) c.new-3.ensures.items
          ∙ ap (λ pr. entered_apps (program_tree pr) m (a_node (program_tree N) lv m first)) c.requires ∙ ap (λ k. entered_apps p k (a_node (program_tree N) lv m first)) main_is
          ∙ ap (entered_apps p main) whole_is;
      outs_are = c.in_ok-outs.ensures.given ∙ ap outputs_of whole_is;
      few = omega (arith, adds.few.flows, ap (λ (x : Next). x.flow) adds.next_is ∙ ap (λ w. 0 + length (flows_in w)) whole_is);
      few_ins = omega (arith, c.in_ok-take_flows.ensures.few, c.len-inputs.ensures, ap (λ (x : NodeTree). length x.ins) is);
    }

pub returns-in_err-take_flows-clause-fault : goal.returns-in_err-take_flows-clause-fault
returns-in_err-take_flows-clause-fault c =
    let p = program_tree c.args.typed.now.program in
    let main = c.args.typed.now.main in
    let d = node_tree c.node_at-node.result.now in
    let is = main_node c.program-program.result.now c.args.typed.now.program c.main-main.result main d c.program-program.ensures c.main-main.ensures.main c.node_at-node.ensures in
    let past = inputs_fault p main c.args.typed.now.types c.main-main.ensures.right c.in_err-take_flows.field-0.0 d c.len-inputs.result is c.len-inputs.ensures c.in_err-take_flows.ensures.limit in
    err_and c.from_residual.result _ _ (λ x same. subst (λ y. IsExpandFault p main y) (sym same) past) c.from_residual.ensures.1

pub returns-in_err-outs-clause-fault : goal.returns-in_err-outs-clause-fault
returns-in_err-outs-clause-fault c =
    let p = program_tree c.args.typed.now.program in
    let all = main_whole c.args.names.now c.args.typed.now.program c.main-main.result c.args.typed.now.main c.len-levels.result c.requires c.main-main.ensures.main
    (many_levels c.program-program.result.now c.args.typed.now.program c.len-levels.result c.len-levels.ensures c.program-program.ensures) in
    let past = fault_is p c.args.typed.now.main c.args.typed.now.types c.main-main.ensures.right c.in_err-outs.field-0.0
    (subst (λ w. IsPast (0 + length (flows_in w)) c.in_err-outs.field-0.0) all c.in_err-outs.ensures.limit) in
    err_and c.from_residual-in_err-outs.result _ _ (λ x same. subst (λ y. IsExpandFault p c.args.typed.now.main y) (sym same) past) c.from_residual-in_err-outs.ensures.1

pub node_at-node-requires : goal.node_at-node-requires
node_at-node-requires c =
    there_in c.program-program.result.now c.args.typed.now.program c.main-main.result c.args.typed.now.main c.args.typed.now.types c.main-main.ensures.right c.program-program.ensures c.main-main.ensures.main

pub enter-requires-clause-sound : goal.enter-requires-clause-sound
enter-requires-clause-sound c =
    subst (λ x. IsSound (program_tree x)) (sym c.requires)
    (sound_is (program_tree c.args.typed.now.program) c.args.typed.now.main c.args.typed.now.types c.main-main.ensures.right c.main-main.ensures.range)

pub enter-requires-clause-there : goal.enter-requires-clause-there
enter-requires-clause-there c =
    there_in c.args.names.now c.args.typed.now.program c.main-main.result c.args.typed.now.main c.args.typed.now.types c.main-main.ensures.right c.requires c.main-main.ensures.main

pub enter-requires-clause-small : goal.enter-requires-clause-small
enter-requires-clause-small c =
    let main = c.args.typed.now.main in
    omega (arith, c.main-main.ensures.main, main_there (program_tree c.args.typed.now.program) main c.args.typed.now.types c.main-main.ensures.right, c.main-main.ensures.range.few)

pub enter-requires-clause-levels : goal.enter-requires-clause-levels
enter-requires-clause-levels c =
    let p = program_tree c.args.typed.now.program in
    let levels_are = many_levels c.program-program.result.now c.args.typed.now.program c.len-levels.result c.len-levels.ensures c.program-program.ensures in
    let all = levels_do p c.args.typed.now.main c.args.typed.now.types c.main-main.ensures.right in
    let here = subst (λ k. MayApply p (length p.nodes) (λ j. applies p k j)) (sym c.main-main.ensures.main) all in
    let many = subst (λ n. MayApply p n (λ j. applies p c.main-main.result j)) (sym levels_are) here in
    subst (λ x. MayApply (program_tree x) c.len-levels.result (λ j. applies (program_tree x) c.main-main.result j)) (sym c.requires) many
