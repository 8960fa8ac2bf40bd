use Rattle.std.proofs.Common.{◌≡◌, ◌+◌, ◌++◌, drop}
use Rattle.prl_expand.specs.code.Terms.{flows_of, operators_made}
use Rattle.prl_expand.proofs.flows.push_operators.Given as goal

abbrev pub invariant-loop-k : goal.invariant-loop-k
invariant-loop-k l =
    l.flows.items ++ flows_of (operators_made l.ty (drop l.k l.ops) (l.first + l.k) l.of) ≡ l.initial.flows.items ++ flows_of (operators_made l.ty l.ops l.first l.initial.of)
