use Rattle.std.proofs.Common.{arith, ap, ◌∙◌}
use Rattle.prl_ast.specs.Trees.{program_tree, node_tree}
use Rattle.prl_types.proofs.Declared.{node_fits, tree_read, no_tree}
use Rattle.prl_types.proofs.contexts.Context.node.Goals as goal

pub returns-then-node-nodes-clause-room : goal.returns-then-node-nodes-clause-room
returns-then-node-nodes-clause-room c =
    let p = program_tree c.self.inside.names.now in
    let nodes = c.as_slice-nodes.ensures ∙ ap (λ q. q.nodes) c.program.ensures in
    let read = tree_read c.self.inside.names.now.nodes c.as_slice-nodes.result.now c.args.node c.index-nodes-node.result nodes c.if-node-nodes.true c.index-nodes-node.is in
    let fits = node_fits p c.self.inside.parameters.items c.self.inside.firsts.items c.self.invariant c.args.node c.index.result.now (node_tree c.index-nodes-node.result) read.0 read.1 c.index.ensures in
    omega (arith, fits, c.self.inside.parameters.small)

pub returns-else-node-nodes-clause-none : goal.returns-else-node-nodes-clause-none
returns-else-node-nodes-clause-none c =
    rw (← c.self.view_is) (no_tree c.self.inside.names.now.nodes c.as_slice-nodes.result.now c.args.node (c.as_slice-nodes.ensures ∙ ap (λ q. q.nodes) c.program.ensures) c.if-node-nodes.false)
