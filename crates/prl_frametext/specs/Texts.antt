-- The text of a frame: its hyperperiod, a line for each slot, and one for each idle time between them.
use Rattle.std.specs.Prelude.{◌+◌, ◌-◌, ◌++◌, ℕ, List, [], ◌∷◌, codes, decimal, nat_lt, if◌then◌else◌}
use Rattle.std.specs.List.{concat}
use Rattle.prl_base.specs.declared.numbers.TaskNo.{TaskNo}
use Rattle.prl_plan.specs.declared.graphs.TaskGraph.{TaskGraph}
use Rattle.prl_plan.specs.Vocabulary.{task_at}
use Rattle.prl_frames.specs.declared.slots.Slot.{Slot}

abbrev pub name_at : TaskGraph → TaskNo → List ℕ
name_at graph task = (task_at graph task.0).name

-- where a slot stands
abbrev pub place_words : Slot → List ℕ
place_words slot = concat (codes "at " ∷ decimal slot.at ∷ codes " units " ∷ decimal slot.units ∷ [])

-- its job, and from which hyperperiod on it holds
abbrev pub job_words : TaskGraph → Slot → List ℕ
job_words graph slot =
    concat (codes " task " ∷ decimal slot.task.0 ∷ codes " " ∷ name_at graph slot.task ∷ codes " job " ∷ decimal slot.job ∷ codes " from " ∷ decimal slot.from ∷ [])

-- whether it is the first one of its job, and the last one
abbrev pub mark_words : Slot → List ℕ
mark_words slot = (if slot.first then codes " first" else []) ++ (if slot.last then codes " last" else [])

abbrev pub slot_line : TaskGraph → Slot → List ℕ
slot_line graph slot = place_words slot ++ job_words graph slot ++ mark_words slot ++ codes "\n"

-- the line of an idle time; none where there is no tick
abbrev pub idle_line : ℕ → ℕ → List ℕ
idle_line from to = if nat_lt from to then concat (codes "idle " ∷ decimal from ∷ codes " units " ∷ decimal (to - from) ∷ codes "\n" ∷ []) else []

-- the lines of some slots, from a place of the hyperperiod on
abbrev pub lines_from : TaskGraph → ℕ → List Slot → List ℕ
lines_from graph from [] = idle_line from graph.hyper
lines_from graph from (slot ∷ slots) = idle_line from slot.at ++ slot_line graph slot ++ lines_from graph (slot.at + slot.units) slots

abbrev pub frame_text : TaskGraph → List Slot → List ℕ
frame_text graph slots = codes "frame 1\nhyperperiod " ++ decimal graph.hyper ++ codes "\n" ++ lines_from graph 0 slots
