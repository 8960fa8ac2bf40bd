use Rattle.std.proofs.Common.{◌≡◌, ◌++◌, ◌-◌, drop, length}
use Rattle.prl_ast.specs.Trees.{program_tree}
use Rattle.prl_types.specs.Rules.{left_rules}
use Rattle.prl_types.proofs.rules.add_lefts.Given as goal

abbrev pub invariant-loop-k : goal.invariant-loop-k
invariant-loop-k l = (l.rules.count ≡ l.initial.rules.count) × (l.rules.rules ++ left_rules (program_tree l.context) l.node (drop l.k l.lefts) (drop l.k l.flows) ≡ l.initial.rules.rules ++ left_rules (program_tree l.context) l.node l.lefts l.flows)

abbrev pub decreases-loop-k : goal.decreases-loop-k
decreases-loop-k l = length l.lefts - l.k
