use Rattle.std.proofs.Common.{◌≡◌, take}
use Rattle.prl_stages.specs.Ran.{sum_of}
use Rattle.prl_executions.proofs.generated.sum_of.Given as goal

-- the sum of the flows so far
abbrev pub invariant-loop-out : goal.invariant-loop-out
invariant-loop-out l = l.sum ≡ sum_of (take l.out-index l.outs)
