-- Texts of schedules.
use Rattle.std.specs.Prelude.{◌==◌, ◌+◌, ◌-◌, ◌<◌, ℕ, List, [], ◌∷◌, length, take, drop, Option, Some, None, Result, Ok, Err, slice_index, if◌then◌else◌, codes}
use Rattle.std.specs.Str.{bytes_eq}
use Rattle.prl_base.specs.Lines.{lines_of}
use Rattle.prl_base.specs.Reading.{◌>>=◌}
use Rattle.prl_base.specs.declared.numbers.TaskNo.{TaskNo}
use Rattle.prl_plan.specs.declared.events.Event.{Event}
use Rattle.prl_plan.specs.declared.events.Event.TheVariants as events
use Rattle.prl_schedules.specs.declared.schedules.ScheduleFault.{ScheduleFault}
use Rattle.prl_schedules.specs.declared.schedules.ScheduleFault.TheVariants as faults

-- the task of a number
abbrev pub task_no : ℕ → TaskNo
task_no k = record { 0 = k }

-- the first task of this name, from number k on
abbrev pub task_from : ℕ → List (List ℕ) → List ℕ → Option TaskNo
task_from k [] name = None
task_from k (task ∷ tasks) name = if bytes_eq task name then Some (task_no k) else task_from (k + 1) tasks name

abbrev pub task_of : List (List ℕ) → List ℕ → Option TaskNo
task_of names name = task_from 0 names name

abbrev pub act_of : Option TaskNo → Option Event
act_of None = None
act_of (Some task) = Some (events.Act task)

-- `tick`, or `act NAME` of a task
abbrev pub event_of : List (List ℕ) → List ℕ → Option Event
event_of names line =
    if bytes_eq line (codes "tick") then Some events.Tick
    else if bytes_eq (take 4 line) (codes "act ") then act_of (task_of names (drop 4 line)) else None

-- the line without a carriage return at its end
abbrev pub without_return : List ℕ → List ℕ
without_return line = if slice_index line (length line - 1) == 13 then take (length line - 1) line else line

abbrev pub or_line : ℕ → Option Event → Result Event ScheduleFault
or_line line None = Err (faults.Syntax line)
or_line line (Some event) = Ok event

-- what stands after the last line feed: nothing, or a line
abbrev pub last_line : List (List ℕ) → ℕ → List ℕ → Result (List Event) ScheduleFault
last_line names k [] = Ok []
last_line names k (b ∷ bs) = or_line k (event_of names (b ∷ bs)) >>= λ event. Ok (event ∷ [])

-- the events of the lines of a text from line k on; the last of the list is what stands after the last line feed
abbrev pub events_from : List (List ℕ) → ℕ → List (List ℕ) → Result (List Event) ScheduleFault
events_from names k [] = Ok []
events_from names k (line ∷ []) = last_line names k line
events_from names k (line ∷ next ∷ lines) = do
  event ← or_line k (event_of names (without_return line))
  events ← events_from names (k + 1) (next ∷ lines)
  Ok (event ∷ events)

-- The events that the lines of a text name, where each line names one of these tasks or a tick; else the first line that does
-- not. One carriage return before a line feed belongs to the end of its line, and the text may stop without a last line feed.
abbrev pub schedule_of : List (List ℕ) → List ℕ → Result (List Event) ScheduleFault
schedule_of names text = events_from names 1 (lines_of text)

-- an act is of one of so many tasks
abbrev pub IsOfTasks : ℕ → Event → Type 0
IsOfTasks tasks events.Tick = Unit {0}
IsOfTasks tasks (events.Act task) = task.0 < tasks
