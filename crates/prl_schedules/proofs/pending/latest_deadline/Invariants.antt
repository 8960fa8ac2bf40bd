use Rattle.prl_schedules.specs.code.Dates.{IsLatest}
use Rattle.prl_schedules.proofs.pending.latest_deadline.Given as goal

-- the latest among the tasks so far
abbrev pub invariant-loop-j : goal.invariant-loop-j
invariant-loop-j l = IsLatest l.plan l.walk.ended.items l.j l.latest
