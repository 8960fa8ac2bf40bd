use Rattle.std.proofs.Common.{◌≡◌, ◌-◌, ◌++◌, drop, map, length}
use Rattle.prl_expand.specs.Vocabulary.{flows_of, def_of, param_of, variables_made}
use Rattle.prl_expand.proofs.variables.push_flows.Given as goal

abbrev pub invariant-loop-k : goal.invariant-loop-k
invariant-loop-k l =
    l.flows.items ++ flows_of (variables_made l.label (map param_of (drop l.k l.params)) (drop l.k l.terms) (map def_of (drop l.k l.defs)))
    ≡ l.initial.flows.items ++ flows_of (variables_made l.label (map param_of l.params) l.terms (map def_of l.defs))

abbrev pub decreases-loop-k : goal.decreases-loop-k
decreases-loop-k l = length l.params - l.k
