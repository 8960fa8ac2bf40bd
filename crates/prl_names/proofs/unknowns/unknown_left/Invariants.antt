use Rattle.std.proofs.Common.{◌≡◌, drop}
use Rattle.prl_ast.specs.Trees.{program_tree}
use Rattle.prl_names.specs.Unknowns.{unknown_lefts}
use Rattle.prl_names.proofs.unknowns.unknown_left.Given as goal

abbrev pub invariant-loop-left : goal.invariant-loop-left
invariant-loop-left l = unknown_lefts (program_tree l.names) l.node (drop l.left-index l.lefts) ≡ unknown_lefts (program_tree l.names) l.node l.lefts
