use Rattle.std.proofs.Common.{◌≡◌, ◌+◌, ◌≤◌, All, length, vec_items}
use Rattle.prl_base.specs.Lines.{lines_of}
use Rattle.prl_schedules.specs.Schedules.{events_from, schedule_of, IsOfTasks}
use Rattle.prl_schedules.proofs.Lines.{with_front}
use Rattle.prl_schedules.proofs.schedules.events_of.Given as goal

-- the events so far and those of the lines that are left are those of all lines
abbrev pub invariant-loop-line : goal.invariant-loop-line
invariant-loop-line l = record {
  told : with_front (vec_items l.events) (events_from l.names l.number (lines_of l.rest)) ≡ schedule_of l.names l.text;
  tasks : All (IsOfTasks (length l.names)) (vec_items l.events);
  few : l.number + length l.rest ≤ length l.text + 1;
}

abbrev pub decreases-loop-line : goal.decreases-loop-line
decreases-loop-line l = length l.rest
