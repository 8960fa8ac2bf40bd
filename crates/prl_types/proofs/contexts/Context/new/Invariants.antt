use Rattle.std.proofs.Common.{map}
use Rattle.prl_ast.specs.Trees.{node_tree}
use Rattle.prl_types.specs.code.Contexts.{AreListed}
use Rattle.prl_types.proofs.contexts.Context.new.Given as goal

abbrev pub invariant-loop-node : goal.invariant-loop-node
invariant-loop-node l = AreListed l.parameters.items l.firsts.items (map node_tree l.names.nodes) l.node-index
