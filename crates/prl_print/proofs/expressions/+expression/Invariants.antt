use Rattle.std.proofs.Common.{◌≡◌, ◌++◌, take, map}
use Rattle.prl_ast.specs.Trees.{tree_of}
use Rattle.prl_syntax.specs.Trees.{trees_from}
use Rattle.prl_print.specs.Printing.{printed_trees}
use Rattle.prl_print.proofs.expressions.+expression.Given as goal

abbrev pub invariant-push_enclosed-loop-index : goal.invariant-push_enclosed-loop-index
invariant-push_enclosed-loop-index l = l.text.items ≡ l.initial.text.items ++ printed_trees (trees_from (map tree_of (take l.index l.parts)))
