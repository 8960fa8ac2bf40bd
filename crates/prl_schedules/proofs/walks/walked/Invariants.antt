use Rattle.std.proofs.Common.{take}
use Rattle.prl_schedules.specs.code.Walks.{IsWalk}
use Rattle.prl_schedules.proofs.walks.walked.Given as goal

-- the walk along the events so far
abbrev pub invariant-loop-event : goal.invariant-loop-event
invariant-loop-event l = IsWalk l.plan (take l.event-index l.list) l.walk
