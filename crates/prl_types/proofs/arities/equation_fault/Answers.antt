use Rattle.std.proofs.Common.{length}
use Rattle.prl_ast.specs.Trees.{program_tree, tree_of}
use Rattle.prl_types.specs.Vocabulary.{faults_in, unless_equal, flows_of}
use Rattle.prl_types.proofs.arities.equation_fault.Goals as goal

pub returns : goal.returns
returns c =
    let p = program_tree c.args.context.now in
    let e = c.args.equation.now in
    let found = flows_of p c.args.node (tree_of e.right) in
    let own = rw c.len.ensures at (c.unequal-fault.ensures (length found) c.expression-right.ensures.flows) in
    c.first.ensures (unless_equal (length found) (length e.lefts) e.at.at) (faults_in p c.args.node (tree_of e.right)) own c.expression-right.ensures.fault
