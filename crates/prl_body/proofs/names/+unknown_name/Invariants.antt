use Rattle.std.proofs.Common.{◌≡◌, drop}
use Rattle.prl_body.specs.Vocabulary.{unknown_name, unknown_name_in, tree_of, pair_trees}
use Rattle.prl_body.proofs.names.+unknown_name.Given as goal

abbrev pub invariant-loop-pair : goal.invariant-loop-pair
invariant-loop-pair l = unknown_name_in l.scope.ins l.scope.registers (pair_trees (drop l.pair-index l.pair-items)) ≡ unknown_name l.scope.ins l.scope.registers (tree_of l.expr)
