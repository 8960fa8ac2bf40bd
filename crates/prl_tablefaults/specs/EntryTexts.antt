-- How the entries of a table and the jobs of a hyperperiod are written.
use Rattle.std.specs.Prelude.{◌+◌, ◌++◌, ℕ, List, [], length, Option, Some, None, codes, decimal, nat_lt, slice_get, if◌then◌else◌}
use Rattle.prl_plan.specs.Jobs.{task_at}
use Rattle.prl_plan.specs.Plans.{PlanView, deadline_at, release_at}
use Rattle.prl_overlaps.specs.declared.entries.Entry.{Entry}
use Rattle.prl_tables.specs.Tables.{classes, is_of}
use Rattle.prl_overloads.specs.ShareTexts.{numbered, texts_below}

abbrev pub name_of : PlanView → ℕ → List ℕ
name_of plan i = (task_at plan.graph i).name

-- words, a number and a name
unfoldable pub named : List ℕ → ℕ → List ℕ → List ℕ
named front n name = front ++ decimal n ++ codes " of `" ++ name

-- from when on, and how long
unfoldable pub span_text : ℕ → ℕ → List ℕ
span_text at units = numbered (codes "` from tick ") at (codes ", units ") ++ numbered [] units (codes ".\n")

-- the job of an entry, and its ticks
unfoldable pub from_text : PlanView → Entry → List ℕ
from_text plan entry = named (codes "job ") entry.job (name_of plan entry.task.0) ++ span_text entry.at entry.units

-- the entry of a line
unfoldable pub entry_text : PlanView → ℕ → Entry → List ℕ
entry_text plan line entry = numbered (codes "Line ") line (codes ": ") ++ from_text plan entry

unfoldable pub between_text : ℕ → ℕ → List ℕ
between_text release deadline = numbered (codes "` is released at ") release [] ++ numbered (codes " and due by ") deadline (codes ".\n")

abbrev pub dates_text : PlanView → ℕ → ℕ → List ℕ
dates_text plan i c = between_text (release_at plan i c) (deadline_at plan i c)

-- when a job has to run
unfoldable pub window_text : PlanView → ℕ → ℕ → List ℕ
window_text plan i c = named (codes "Job ") c (name_of plan i) ++ dates_text plan i c

-- a task of this number is none of the plan
unfoldable pub no_task_text : ℕ → ℕ → List ℕ
no_task_text i tasks = numbered (codes "There is no task ") i (codes ": the plan has ") ++ numbered [] tasks (codes ", which count from 0.\n")

abbrev pub classes_text : PlanView → ℕ → List ℕ
classes_text plan i = numbered (codes "`: a hyperperiod has ") (classes plan.graph i) (codes ", which count from 0.\n")

-- a job of this number is none of a hyperperiod
unfoldable pub no_job_text : PlanView → ℕ → ℕ → List ℕ
no_job_text plan i c = named (codes "There is no job ") c (name_of plan i) ++ classes_text plan i

-- when job c of task i has to run, or why there is none
abbrev pub job_text : PlanView → ℕ → ℕ → List ℕ
job_text plan i c =
    if nat_lt i (length plan.graph.tasks) then (if nat_lt c (classes plan.graph i) then window_text plan i c else no_job_text plan i c)
    else no_task_text i (length plan.graph.tasks)

-- entry k, which stands in line k + 3, where it is of job c of task i
abbrev pub entry_if : PlanView → ℕ → ℕ → ℕ → Option Entry → List ℕ
entry_if plan i c k None = []
entry_if plan i c k (Some entry) = if is_of i c entry then entry_text plan (k + 3) entry else []

abbrev pub entry_of : PlanView → List Entry → ℕ → ℕ → ℕ → List ℕ
entry_of plan entries i c k = entry_if plan i c k (slice_get entries k)

-- the entries of job c of task i
abbrev pub entries_text : PlanView → List Entry → ℕ → ℕ → List ℕ
entries_text plan entries i c = texts_below (entry_of plan entries i c) (length entries)
