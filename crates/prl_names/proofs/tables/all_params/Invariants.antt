use Rattle.std.proofs.Common.{map, take}
use Rattle.prl_ast.specs.Trees.{node_tree}
use Rattle.prl_names.specs.Tables.{AreParams}
use Rattle.prl_names.proofs.tables.all_params.Given as goal

abbrev pub invariant-loop-node : goal.invariant-loop-node
invariant-loop-node l = AreParams l.tables.items (map node_tree (take l.node-index l.nodes))
