-- What is seen of a task's seat of the table with where its job stands, and what its steps answer.
use Rattle.std.specs.Prelude.{◌≡◌, ◌+◌, ◌<◌, ◌≤◌, ◌/◌, ◌^◌, ℕ, Bool, true, false, Option, Some}
use mathlib.Core.Option.{some}
use lib.ListN.{get_elem?}
use Rattle.atomic_table.specs.Seated.{TableId}
use Rattle.prl_base.specs.declared.numbers.EdgeNo.{EdgeNo}
use Rattle.prl_base.specs.declared.numbers.TaskNo.{TaskNo}
use Rattle.prl_plan.specs.declared.events.SlotNo.{SlotNo}
use Rattle.prl_plan.specs.Runs.{RunConstants, action_at}
use Rattle.prl_rule.specs.declared.views.Constants.{Constants}
use Rattle.prl_rule.specs.declared.views.View.{View}
use Rattle.prl_seats.specs.declared.jobs.Stage.{Stage}
use Rattle.prl_seats.specs.declared.jobs.Stage.TheVariants as stages
use Rattle.prl_seats.specs.declared.jobs.Release.{Release}
use Rattle.prl_seats.specs.declared.jobs.Release.TheVariants as releases
use Rattle.prl_seats.specs.Boards.{BoardView, NamesTask}
use Rattle.prl_rule.specs.Agreement.{IsOverrun}
use Rattle.prl_rule.specs.Told.{EndTold, HalfTold, IsAt, NowTold, StopTold, part_at, part_of}
use Rattle.prl_rule.specs.Known.{run_of, values_of}
use Rattle.prl_rule.specs.Rule.{first_part}

-- its table, its number there and its view; the task, how many of its jobs have ended, and the place and the stage of the next one
pub record JobSeatView : Type 0 where
  pub table : TableId
  pub id : ℕ
  pub view : View
  pub task : TaskNo
  pub job : ℕ
  pub place : ℕ
  pub stage : Stage

-- the stage of job n of task i at a place, where the job is open, and where it is not
abbrev pub IsStage : RunConstants → ℕ → ℕ → ℕ → Bool → Stage → Type 0
IsStage c i n place is_open stages.Over = (is_open ≡ false) × (c.jobs i ≤ n) × (place ≡ 0)
IsStage c i n place is_open stages.Idle = (is_open ≡ false) × (n < c.jobs i) × (place ≡ 0)
IsStage c i n place is_open (stages.At action) = (is_open ≡ true) × (n < c.jobs i) × (action_at c i n place ≡ action)

-- the seat stands as its view says, after the constants that it has read since its last step
pub record Follows (k : Constants) (view : View) (i job place : ℕ) (stage : Stage) : Type 0 where
  pub at : IsAt k i place view
  pub task : i < (run_of k).tasks
  pub ended : (part_at k i place view).stand.ended ≡ job
  pub stands : (part_at k i place view).stand.place ≡ place
  pub shown : IsStage (run_of k) i job place (part_at k i place view).stand.is_open stage

abbrev pub HasPartOf : ℕ → View → Type 0
HasPartOf i view = get_elem? view.tasks i ≡ some (Some (part_of i view))

-- The seat belongs to the board: both are of one table, its view has the constants of the board's run, and the task's part.
pub record IsSeatOf (b : BoardView) (s : JobSeatView) : Type 0 where
  pub table : s.table ≡ b.table
  pub known : s.view.constants ≡ Some b.known
  pub part : HasPartOf s.task.0 s.view

-- it is the same seat of the same task
pub record IsSameSeat (before after : JobSeatView) : Type 0 where
  pub table : after.table ≡ before.table
  pub id : after.id ≡ before.id
  pub task : after.task ≡ before.task

-- no job is open
abbrev pub IsShut : Stage → Type 0
IsShut stages.Over = Unit {0}
IsShut stages.Idle = Unit {0}
IsShut (stages.At action) = ⊥

-- what a release answers: the next job opens where it is one of the horizon, and released at the `now` that was loaded
abbrev pub AnswersRelease : Constants → JobSeatView → JobSeatView → Release → Type 0
AnswersRelease k before after releases.Over = ((run_of k).jobs before.task.0 ≤ before.job) × (after ≡ before)
AnswersRelease k before after (releases.Early now at) =
    (before.job < (run_of k).jobs before.task.0) × (at ≡ (run_of k).release before.task.0 before.job) × (now < at)
    × NowTold k before.task.0 before.view now after.view × (after.job ≡ before.job) × (after.stage ≡ stages.Idle)
AnswersRelease k before after (releases.Open job) =
    (job ≡ before.job) × (job < (run_of k).jobs before.task.0)
    × ((now : ℕ) × ((run_of k).release before.task.0 job ≤ now) × NowTold k before.task.0 before.view now after.view)
    × (after.job ≡ before.job) × (after.stage ≡ stages.At (action_at (run_of k) before.task.0 job 0))

-- the job goes on to its next action
pub record GoesOn (k : Constants) (before after : JobSeatView) : Type 0 where
  pub job : after.job ≡ before.job
  pub place : after.place ≡ before.place + 1
  pub stage : after.stage ≡ stages.At (action_at (run_of k) before.task.0 before.job (before.place + 1))

-- it stays where it is
pub record StaysAt (before after : JobSeatView) : Type 0 where
  pub job : after.job ≡ before.job
  pub place : after.place ≡ before.place
  pub stage : after.stage ≡ before.stage

-- after a load of the half that it is to read: with the wanted tag it goes on
pub record LoadsHalf (k : Constants) (e : EdgeNo) (m : ℕ) (slot : SlotNo) (before after : JobSeatView) (word : ℕ) : Type 0 where
  pub told : HalfTold k before.task.0 before.place e.0 m slot.0 before.view word after.view
  pub found : word / 2 ^ 32 ≡ m + 1 → GoesOn k before after
  pub missed : (word / 2 ^ 32 ≡ m + 1 → ⊥) → StaysAt before after

-- after the end of its job
pub record Ends (k : Constants) (before after : JobSeatView) : Type 0 where
  pub told : EndTold k before.task.0 before.place before.view after.view
  pub job : after.job ≡ before.job + 1
  pub place : after.place ≡ 0
  pub stage : IsStage (run_of k) before.task.0 (before.job + 1) 0 false after.stage

-- its next step reads a half that it has found with a later instance than its operand
abbrev pub MayRaise : Constants → JobSeatView → Type 0
MayRaise k s = IsOverrun (run_of k) s.task.0 (part_at k s.task.0 s.place s.view).stand (part_of s.task.0 s.view).kept

-- after a load of the stop word
pub record TellsStop (k : Constants) (before after : JobSeatView) (answer : Option TaskNo) : Type 0 where
  pub word : ℕ
  pub told : StopTold k before.task.0 before.place before.view word after.view
  pub names : NamesTask word answer

-- in the view, which has the constants of the run, task i is as it was at the opening
pub record HasFirstPart (k : Constants) (i : ℕ) (view : View) : Type 0 where
  pub known : view.constants ≡ Some k
  pub part : get_elem? view.tasks i ≡ some (Some (first_part ((values_of k).registers i 0)))

-- it is the seat of the task at the opening: no job has begun
pub record IsFirstSeat (k : Constants) (i : TaskNo) (s : JobSeatView) : Type 0 where
  pub part : HasFirstPart k i.0 s.view
  pub task : s.task ≡ i
  pub job : s.job ≡ 0
  pub place : s.place ≡ 0
  pub stage : IsStage (run_of k) i.0 0 0 false s.stage

-- the same job with another seat of the table
abbrev pub reseated : TableId → ℕ → View → JobSeatView → JobSeatView
reseated table id view s = record { table = table; id = id; view = view; task = s.task; job = s.job; place = s.place; stage = s.stage }
