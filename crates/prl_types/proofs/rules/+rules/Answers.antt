use Rattle.std.proofs.Common.{◌∙◌, ◌++◌, ap, sym, List}
use Rattle.prl_ast.specs.Trees.{program_tree}
use Rattle.prl_names.specs.Vocabulary.{all_trees, callee_of}
use Rattle.prl_names.proofs.Rows.{root_of_Apply, root_of_Group}
use Rattle.prl_terms.specs.declared.terms.Rule.{Rule}
use Rattle.prl_types.specs.Vocabulary.{root_flows, inputs_of, placed_flows, terms_of, root_rules, all_rules, flows_in}
use Rattle.prl_types.proofs.Segmented.{terms_of_flows}
use Rattle.prl_types.proofs.Walking.{terms_placed_flows, application_rules}
use Rattle.prl_types.proofs.rules.+rules.Goals as goal

pub base-returns-in_ok-outputs-in-Apply-clause-rules : goal.base-returns-in_ok-outputs-in-Apply-clause-rules
base-returns-in_ok-outputs-in-Apply-clause-rules t c =
    let p = program_tree c.args.context.now in
    let node = c.args.node in
    let args = all_trees c.in-Apply.args.items in
    let trees = ap all_trees c.as_slice.ensures.value in
    let whole = ap (root_rules p node) (root_of_Apply c.in-Apply.name c.in-Apply.at c.in-Apply.args) in
    let callee = c.callee-callee.ensures ∙ ap (callee_of p) c.bytes-in-Apply.ensures.bytes in
    let inputs = c.inputs.ensures ∙ ap (inputs_of p) callee in
    let flows = ap flows_in c.as_slice-in-Apply.ensures.value ∙ c.in_ok-flows-in-Apply.ensures.flows ∙ ap (placed_flows p node) trees in
    let middle = c.in_ok-flows-in-Apply.ensures.rules ∙ ap (λ ts. c.args.rules.now.rules ++ all_rules p node ts) trees in
    rw c.in-Apply.is (application_rules c.args.rules.now.rules c.parts.new.rules.rules c.add_arguments.new.rules.rules (all_rules p node args) _
    (inputs_of p (callee_of p c.in-Apply.name)) c.inputs.result.now (placed_flows p node args) (flows_in c.as_slice-in-Apply.result.now)
    middle c.in_ok-add_arguments-in-Apply.ensures.rules inputs flows whole)

pub base-returns-in_ok-flows-in-Group-clause-flows : goal.base-returns-in_ok-flows-in-Group-clause-flows
base-returns-in_ok-flows-in-Group-clause-flows t c =
    let p = program_tree c.args.context.now in
    let node = c.args.node in
    let flows = c.in_ok-flows-in-Group.ensures.flows ∙ ap (placed_flows p node) (ap all_trees c.as_slice-in-Group.ensures.value) in
    rw c.in-Group.is (sym (terms_of_flows c.in_ok-flows-in-Group.flows.items) ∙ ap terms_of flows ∙ terms_placed_flows p node (all_trees c.in-Group.exprs.items)
    ∙ sym (ap (root_flows p node) (root_of_Group c.in-Group.exprs)))

pub base-returns-in_ok-flows-in-Group-clause-rules : goal.base-returns-in_ok-flows-in-Group-clause-rules
base-returns-in_ok-flows-in-Group-clause-rules t c =
    let p = program_tree c.args.context.now in
    let added = λ (rs : List Rule). c.args.rules.now.rules ++ rs in
    rw c.in-Group.is (c.in_ok-flows-in-Group.ensures.rules ∙ ap (λ ts. added (all_rules p c.args.node ts)) (ap all_trees c.as_slice-in-Group.ensures.value)
    ∙ ap added (sym (ap (root_rules p c.args.node) (root_of_Group c.in-Group.exprs))))
