use Rattle.std.proofs.Common.{◌≡◌, ◌+◌, ◌++◌, drop}
use Rattle.prl_expand.specs.code.Terms.{output_terms}
use Rattle.prl_expand.proofs.terms.outputs.Given as goal

abbrev pub invariant-loop-k : goal.invariant-loop-k
invariant-loop-k l = l.terms.items ++ output_terms (drop l.k l.ports) (l.first + l.k) l.at ≡ output_terms l.ports l.first l.at
