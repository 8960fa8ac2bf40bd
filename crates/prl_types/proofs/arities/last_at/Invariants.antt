use Rattle.std.proofs.Common.{◌≡◌, drop}
use Rattle.prl_types.specs.Arity.{last_at}
use Rattle.prl_types.proofs.arities.last_at.Given as goal

abbrev pub invariant-loop-operator : goal.invariant-loop-operator
invariant-loop-operator l = last_at l.last (drop l.operator-index l.operators) ≡ last_at l.initial.last l.operators
