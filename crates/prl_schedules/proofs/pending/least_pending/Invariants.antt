use Rattle.prl_schedules.specs.code.Dates.{IsLeastBelow}
use Rattle.prl_schedules.proofs.pending.least_pending.Given as goal

-- the least among the tasks so far
abbrev pub invariant-loop-j : goal.invariant-loop-j
invariant-loop-j l = IsLeastBelow l.plan l.walk.tick l.walk.ended.items l.bound l.j l.best
