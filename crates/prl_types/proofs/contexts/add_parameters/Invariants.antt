use Rattle.std.proofs.Common.{◌≡◌, ◌++◌}
use Rattle.prl_types.specs.Flows.{parameters_from}
use Rattle.prl_types.proofs.contexts.add_parameters.Given as goal

abbrev pub invariant-loop-k : goal.invariant-loop-k
invariant-loop-k l = l.terms.items ≡ l.initial.terms.items ++ parameters_from l.first l.k
