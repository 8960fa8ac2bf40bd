use Rattle.std.proofs.Common.{◌≡◌, ◌++◌, ◌-◌, drop, length}
use Rattle.prl_types.specs.Vocabulary.{placed, argument_rules}
use Rattle.prl_types.proofs.rules.add_given.Given as goal

abbrev pub invariant-loop-k : goal.invariant-loop-k
invariant-loop-k l = (l.rules.count ≡ l.initial.rules.count) × (l.rules.rules ++ argument_rules (drop l.k l.inputs) (placed l.at (drop l.k l.terms)) ≡ l.initial.rules.rules ++ argument_rules l.inputs (placed l.at l.terms))

abbrev pub decreases-loop-k : goal.decreases-loop-k
decreases-loop-k l = length l.inputs - l.k
