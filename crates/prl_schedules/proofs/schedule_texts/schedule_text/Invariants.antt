use Rattle.prl_base.proofs.Standard.{◌≡◌, take, flat_map}
use Rattle.prl_schedules.specs.ScheduleTexts.{task_names, event_line}
use Rattle.prl_schedules.proofs.schedule_texts.schedule_text.Given as goal

-- the lines of the events so far
abbrev pub invariant-loop-event : goal.invariant-loop-event
invariant-loop-event l = l.text.items ≡ flat_map (event_line (task_names l.plan)) (take l.event-index l.events)
