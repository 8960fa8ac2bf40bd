use Rattle.prl_base.proofs.Standard.{◌≡◌, drop, map, option_map}
use Rattle.prl_ast.specs.Trees.{node_tree}
use Rattle.prl_names.specs.Vocabulary.{placed_of, earliest_repeat, definition_space}
use Rattle.prl_names.proofs.repeats.repeat_in_definitions.Given as goal

abbrev pub invariant-loop-k : goal.invariant-loop-k
invariant-loop-k l = earliest_repeat (option_map placed_of l.first) (map definition_space (map node_tree (drop l.k l.names.nodes))) ≡ earliest_repeat (option_map placed_of l.initial.first) (map definition_space (map node_tree l.names.nodes))
