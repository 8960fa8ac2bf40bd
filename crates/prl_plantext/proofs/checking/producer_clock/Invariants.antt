use Rattle.std.proofs.Common.{◌≡◌, ◌+◌, ◌*◌, ◌≤◌, ◌^◌, drop}
use Rattle.prl_plan.specs.declared.limits.TheConstants.{MAX_HYPER}
use Rattle.prl_plantext.specs.code.Checks.{producer_clock}
use Rattle.prl_plantext.proofs.checking.producer_clock.Given as goal

-- the clock so far leads to the same, and starts no later than a hyperperiod for each operator
abbrev pub invariant-loop-op : goal.invariant-loop-op
invariant-loop-op l =
    (producer_clock l.hyper (drop l.op-index l.ops) l.clock ≡ producer_clock l.hyper l.ops l.fn.consumer)
    × (l.clock.start ≤ 2 ^ 31 + l.op-index * MAX_HYPER)
