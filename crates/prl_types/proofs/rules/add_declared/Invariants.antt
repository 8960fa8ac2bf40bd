use Rattle.std.proofs.Common.{◌≡◌, ◌++◌, map, drop}
use Rattle.prl_types.specs.Vocabulary.{owned_of, declared_rules}
use Rattle.prl_types.proofs.rules.add_declared.Given as goal

abbrev pub invariant-loop-k : goal.invariant-loop-k
invariant-loop-k l = (l.rules.count ≡ l.initial.rules.count) × (l.rules.rules ++ declared_rules l.k (map owned_of (drop l.k l.parameters)) ≡ l.initial.rules.rules ++ declared_rules 0 (map owned_of l.parameters))
