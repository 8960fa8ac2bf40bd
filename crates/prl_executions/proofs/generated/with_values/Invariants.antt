use Rattle.std.proofs.Common.{◌≡◌, take}
use Rattle.prl_stages.specs.Ran.{with_values}
use Rattle.prl_executions.proofs.generated.with_values.Given as goal

-- the sum with the values so far
abbrev pub invariant-loop-value : goal.invariant-loop-value
invariant-loop-value l = l.sum ≡ with_values l.total (take l.value-index l.values)
