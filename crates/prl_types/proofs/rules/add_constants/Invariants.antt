use Rattle.std.proofs.Common.{◌≡◌, ◌≤◌, ◌++◌, drop, length}
use Rattle.prl_types.specs.Rules.{constant_rules}
use Rattle.prl_types.proofs.rules.add_constants.Given as goal

abbrev pub invariant-loop-k : goal.invariant-loop-k
invariant-loop-k l = (l.rules.count ≡ l.initial.rules.count) × (l.k ≤ length l.prefixes) × (l.rules.rules ≡ l.initial.rules.rules ++ constant_rules l.of (drop l.k l.prefixes))

abbrev pub decreases-loop-k : goal.decreases-loop-k
decreases-loop-k l = l.k
