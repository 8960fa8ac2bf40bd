use Rattle.std.proofs.Common.{length, ◌-◌}
use Rattle.prl_calendar.specs.Kinds.{IsAdding}
use Rattle.prl_calendar.proofs.kinds.add_kind.Given as goal

abbrev pub invariant-loop-place : goal.invariant-loop-place
invariant-loop-place l = IsAdding l.clocks l.first l.initial.due.items l.place l.due.items

abbrev pub decreases-loop-place : goal.decreases-loop-place
decreases-loop-place l = length l.clocks - l.place
