use Rattle.prl_base.proofs.Standard.{◌≡◌, ◌++◌, take, flat_map}
use Rattle.prl_schedules.specs.ScheduleTexts.{names_of}
use Rattle.prl_explain.specs.Placings.{name_text}
use Rattle.prl_explain.proofs.placings.push_names.Given as goal

-- the names so far stand in the text
abbrev pub invariant-loop-task : goal.invariant-loop-task
invariant-loop-task l = l.told.items ≡ l.initial.told.items ++ flat_map name_text (names_of (take l.task-index l.tasks))
