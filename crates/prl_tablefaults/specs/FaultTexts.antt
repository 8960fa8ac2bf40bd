-- What is told of a table that is not good.
use Rattle.std.specs.Prelude.{◌≡◌, ◌++◌, ◌-◌, ◌==◌, ◌⊎◌, ℕ, List, [], Option, Some, None, Result, Ok, Err, codes, length, nat_lt, slice_get, if◌then◌else◌}
use Rattle.prl_plan.specs.Jobs.{task_at}
use Rattle.prl_plan.specs.Plans.{PlanView, edge_at}
use Rattle.prl_plan.specs.Operands.{operand_of}
use Rattle.prl_plan.specs.Precedence.{ComesFrom}
use Rattle.prl_plan.specs.declared.walks.Operand.TheVariants as operands
use Rattle.prl_overlaps.specs.declared.entries.Entry.{Entry}
use Rattle.prl_tables.specs.declared.reading.TableFault.{TableFault}
use Rattle.prl_tables.specs.declared.reading.TableFault.TheVariants as faults
use Rattle.prl_tables.specs.Checks.{IsFault}
use Rattle.prl_tables.specs.Tables.{is_of, units_of}
use Rattle.prl_tables.specs.TableTexts.{entries_of}
use Rattle.prl_overloads.specs.ShareTexts.{numbered}
use Rattle.prl_tablefaults.specs.EntryTexts.{entries_text, entry_text, job_text, name_of, named, no_task_text}

-- an entry, and its job; that its task is none
abbrev pub stands_text : PlanView → ℕ → Option Entry → List ℕ
stands_text plan line None = []
stands_text plan line (Some entry) =
    if nat_lt entry.task.0 (length plan.graph.tasks) then entry_text plan line entry ++ job_text plan entry.task.0 entry.job
    else no_task_text entry.task.0 (length plan.graph.tasks)

-- what stands in a line
abbrev pub line_text : PlanView → List Entry → ℕ → List ℕ
line_text plan entries line = stands_text plan line (slice_get entries (line - 3))

-- the units of an entry, where it is of job c of task i
abbrev pub units_in : ℕ → ℕ → Entry → ℕ
units_in i c entry = if is_of i c entry then entry.units else 0

unfoldable pub have_text : ℕ → ℕ → List ℕ
have_text units wcet = numbered (codes "Its lines have ") units (codes " units in all, ") ++ numbered (codes "and its wcet is ") wcet (codes ": ")

-- how many units are to come or to go
abbrev pub mend_text : ℕ → ℕ → List ℕ
mend_text units wcet =
    if nat_lt units wcet then numbered (codes "add ") (wcet - units) (codes ".\n") else numbered (codes "take out ") (units - wcet) (codes ".\n")

-- the units of a job's lines, and its WCET
unfoldable pub sum_text : ℕ → ℕ → List ℕ
sum_text units wcet = have_text units wcet ++ mend_text units wcet

abbrev pub whole_text : PlanView → List Entry → ℕ → ℕ → List ℕ
whole_text plan entries i c =
    job_text plan i c ++ entries_text plan entries i c ++ sum_text (units_of entries i c) (task_at plan.graph i).wcet

abbrev pub again_text : PlanView → List ℕ
again_text plan = numbered (codes "The table comes again after ") plan.graph.hyper (codes " ticks.\n")

unfoldable pub pair_text : PlanView → List Entry → ℕ → ℕ → List ℕ
pair_text plan entries first second = line_text plan entries first ++ line_text plan entries second

-- the entries of two lines with their jobs
unfoldable pub clash_text : PlanView → List Entry → ℕ → ℕ → List ℕ
clash_text plan entries first second = pair_text plan entries first second ++ again_text plan

-- job c of the consumer of edge e reads an instance of job m of task i
pub record IsWaiting (plan : PlanView) (e c i m : ℕ) : Type 0 where
  pub from : ComesFrom (edge_at plan.graph e).from i
  pub reads : operand_of (edge_at plan.graph e) c ≡ operands.From m

abbrev pub consumer_text : PlanView → ℕ → ℕ → List ℕ
consumer_text plan e c = named (codes "Job ") c (name_of plan (edge_at plan.graph e).to.0)

abbrev pub producer_text : PlanView → ℕ → ℕ → List ℕ
producer_text plan i m = named (codes " for job ") m (name_of plan i)

abbrev pub edge_no_text : ℕ → List ℕ
edge_no_text e = numbered (codes "` waits on edge ") e []

unfoldable pub edge_text : PlanView → ℕ → ℕ → List ℕ
edge_text plan e c = consumer_text plan e c ++ edge_no_text e

-- which job waits for which
unfoldable pub waits_text : PlanView → ℕ → ℕ → ℕ → ℕ → List ℕ
waits_text plan e c i m = edge_text plan e c ++ producer_text plan i m ++ codes "`.\n"

abbrev pub entries_to : PlanView → List Entry → ℕ → ℕ → List ℕ
entries_to plan entries e c = entries_text plan entries (edge_at plan.graph e).to.0 c

-- which job waits for which, and the entries of both
unfoldable pub order_text : PlanView → List Entry → ℕ → ℕ → ℕ → ℕ → List ℕ
order_text plan entries e c i m = waits_text plan e c i m ++ entries_to plan entries e c ++ entries_text plan entries i m

-- a job of the consumer waits for one of task i, and this is told of both
pub record IsOrderTold (plan : PlanView) (entries : List Entry) (e c : ℕ) (text : List ℕ) : Type 0 where
  pub i : ℕ
  pub m : ℕ
  pub waits : IsWaiting plan e c i m
  pub is : text ≡ order_text plan entries e c i m

-- what is told of a fault; nothing of numbers past 64 bits, and of a job that reads a constant in the first hyperperiod
abbrev pub IsToldOf : PlanView → List Entry → TableFault → List ℕ → Type 0
IsToldOf plan entries (faults.Piece line) text = text ≡ line_text plan entries line
IsToldOf plan entries (faults.Units task job) text = (text ≡ []) ⊎ (text ≡ whole_text plan entries task.0 job)
IsToldOf plan entries (faults.Clash first second) text = text ≡ clash_text plan entries first second
IsToldOf plan entries (faults.Order edge job) text = (text ≡ []) ⊎ IsOrderTold plan entries edge.0 job text
IsToldOf plan entries (faults.Syntax line) text = text ≡ []
IsToldOf plan entries faults.Memory text = text ≡ []

-- the entries are not good for this first reason, and this is told of it
pub record IsFaultTold (plan : PlanView) (entries : List Entry) (text : List ℕ) : Type 0 where
  pub fault : TableFault
  pub is_fault : IsFault plan entries fault
  pub told : IsToldOf plan entries fault text

-- what is told of entries
abbrev pub IsCheckedTold : PlanView → List Entry → List ℕ → Type 0
IsCheckedTold plan entries text = (text ≡ []) ⊎ IsFaultTold plan entries text

unfoldable pub hyper_text : ℕ → List ℕ
hyper_text hyper = numbered (codes "The hyperperiod of the plan is ") hyper (codes ".\n")

-- what is told of a text that tells no entries: the hyperperiod, where its second line does not tell that
abbrev pub unread_text : ℕ → TableFault → List ℕ
unread_text hyper (faults.Syntax line) = if line == 2 then hyper_text hyper else []
unread_text hyper _ = []

abbrev pub IsReadTold : PlanView → Result (List Entry) TableFault → List ℕ → Type 0
IsReadTold plan (Ok entries) text = IsCheckedTold plan entries text
IsReadTold plan (Err fault) text = text ≡ unread_text plan.graph.hyper fault

-- what is told of the text of a table that is not good for the plan
abbrev pub IsTableTold : PlanView → List ℕ → List ℕ → Type 0
IsTableTold plan table text = IsReadTold plan (entries_of plan.graph.hyper table) text
