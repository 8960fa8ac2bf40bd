use Rattle.std.proofs.Common.{◌≡◌, ◌+◌, ◌++◌, drop}
use Rattle.prl_expand.specs.code.Terms.{flows_of, outputs_made}
use Rattle.prl_expand.proofs.flows.push_outputs.Given as goal

abbrev pub invariant-loop-k : goal.invariant-loop-k
invariant-loop-k l =
    l.flows.items ++ flows_of (outputs_made l.app l.k l.at (drop l.k l.ports) (l.first + l.k)) ≡ l.initial.flows.items ++ flows_of (outputs_made l.app 0 l.at l.ports l.first)
