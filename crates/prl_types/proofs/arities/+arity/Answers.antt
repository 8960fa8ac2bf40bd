use Rattle.std.proofs.Common.{◌∙◌, ap, sym, length}
use Rattle.prl_ast.specs.Trees.{program_tree, tree_of}
use Rattle.prl_names.specs.Vocabulary.{all_trees, callee_of}
use Rattle.prl_names.proofs.Rows.{root_of_Apply, root_of_Group}
use Rattle.prl_types.specs.Vocabulary.{counted, first_at, faults_in, root_faults, all_faults, unless_equal, flows_of, root_flows, all_flows, inputs_of}
use Rattle.prl_types.proofs.Counting.{drop_trees, parts_more}
use Rattle.prl_types.proofs.arities.+arity.Goals as goal

pub base-returns-in-Apply-clause-fault : goal.base-returns-in-Apply-clause-fault
base-returns-in-Apply-clause-fault t c =
    let p = program_tree c.args.context.now in
    let node = c.args.node in
    let args = all_trees c.in-Apply.args.items in
    let trees = ap all_trees c.as_slice.ensures.value in
    let whole = ap (λ r. first_at (root_faults p node r)) (root_of_Apply c.in-Apply.name c.in-Apply.at c.in-Apply.args) in
    let callee = c.callee-callee.ensures ∙ ap (callee_of p) c.bytes.ensures.bytes in
    let needed = c.counts-counts.ensures.takes ∙ ap (λ k. length (inputs_of p k)) callee in
    let inner = c.parts-inner.ensures.flows ∙ ap (λ ts. counted (length (all_flows p node ts))) trees in
    let own = c.unequal-fault.ensures (length (all_flows p node args)) inner ∙ ap (λ n. first_at (unless_equal (length (all_flows p node args)) n c.in-Apply.at.at)) needed in
    let parts = c.parts-inner.ensures.fault ∙ ap (λ ts. first_at (all_faults p node ts)) trees in
    rw c.in-Apply.is (c.first.ensures _ (all_faults p node args) own parts ∙ sym whole)

pub base-returns-in-Group-clause-flows : goal.base-returns-in-Group-clause-flows
base-returns-in-Group-clause-flows t c =
    let p = program_tree c.args.context.now in
    let node = c.args.node in
    let whole = ap (λ r. counted (length (root_flows p node r))) (root_of_Group c.in-Group.exprs) in
    rw c.in-Group.is (c.parts.ensures.flows ∙ ap (λ xs. counted (length (all_flows p node (all_trees xs)))) c.as_slice-in-Group.ensures.value ∙ sym whole)

pub base-returns-in-Group-clause-fault : goal.base-returns-in-Group-clause-fault
base-returns-in-Group-clause-fault t c =
    let p = program_tree c.args.context.now in
    let node = c.args.node in
    let whole = ap (λ r. first_at (root_faults p node r)) (root_of_Group c.in-Group.exprs) in
    rw c.in-Group.is (c.parts.ensures.fault ∙ ap (λ xs. first_at (all_faults p node (all_trees xs))) c.as_slice-in-Group.ensures.value ∙ sym whole)

pub parts-loop-expr-preserved : goal.parts-loop-expr-preserved
parts-loop-expr-preserved t c =
    let p = program_tree c.args.context.now in
    let node = c.args.node in
    let h = c.loop-expr.invariant in
    let e = c.expr-item.result in
    parts_more p node _ _ _ (tree_of e) _ _ _ _ h (drop_trees c.args.exprs.now c.loop-expr.expr-index e c.loop-expr-test.true c.expr-item.is)
    (c.sum-flows.ensures h.number (length (flows_of p node (tree_of e))) h.flows_are c.expression-arity.ensures.flows)
    (c.first-fault.ensures h.faults (faults_in p node (tree_of e)) h.fault_is c.expression-arity.ensures.fault)
