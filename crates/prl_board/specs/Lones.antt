-- What is seen of one thread that holds all seats.
use Rattle.std.specs.Prelude.{◌≡◌, ◌<◌, ◌≤◌, ◌+◌, ℕ, List, length, Some, slice_get}
use lib.ListN.{get_elem?}
use Rattle.atomic_table.specs.Seated.{TableId}
use Rattle.prl_base.specs.declared.numbers.EdgeNo.{EdgeNo}
use Rattle.prl_plan.specs.LastTags.{IsWriter, last_tag}
use Rattle.prl_plan.specs.Runs.{RunConstants}
use Rattle.prl_plan.specs.declared.events.Action.TheVariants as actions
use Rattle.prl_plan.specs.declared.events.SlotNo.{SlotNo}
use Rattle.prl_seats.specs.declared.jobs.Stage.{Stage}
use Rattle.prl_seats.specs.declared.jobs.Stage.TheVariants as stages
use Rattle.prl_board.specs.declared.seats.Got.{Got}
use Rattle.prl_board.specs.declared.seats.Got.TheVariants as gots
use Rattle.prl_rule.specs.declared.views.ClockPart.{ClockPart}
use Rattle.prl_rule.specs.declared.views.Constants.{Constants}
use Rattle.prl_rule.specs.declared.views.Gate.TheVariants as gates
use Rattle.prl_rule.specs.declared.views.View.{View}
use Rattle.prl_rule.specs.Told.{TickTold}
use Rattle.prl_board.specs.declared.clocks.Ticked.{Ticked}
use Rattle.prl_board.specs.declared.clocks.Ticked.TheVariants as ticks
use Rattle.prl_seats.specs.declared.jobs.Release.{Release}
use Rattle.prl_seats.specs.declared.jobs.Release.TheVariants as releases
use Rattle.prl_board.specs.declared.seats.Place.{Place}
use Rattle.prl_seats.specs.Boards.{BoardView}
use Rattle.prl_board.specs.ClockSeats.{IsAllSeen, IsBehind}
use Rattle.prl_seats.specs.JobSeats.{Follows, IsSeatOf, JobSeatView, StaysAt}
use Rattle.prl_board.specs.TaskSeats.{place_of}
use Rattle.prl_rule.specs.Known.{run_of}

-- its table, the number of its one seat there and the view of that seat, and by task where its job stands
pub record LoneView : Type 0 where
  pub table : TableId
  pub id : ℕ
  pub view : View
  pub seats : List JobSeatView

-- the seats are those that came with the board: one of each task, in their order
pub record AreSeatsOf (b : BoardView) (seats : List JobSeatView) : Type 0 where
  pub tasks : length seats ≡ (run_of b.known).tasks
  pub each : (i : ℕ) (s : JobSeatView) → slice_get seats i ≡ Some s → IsSeatOf b s × (s.task ≡ record { 0 = i })

-- it belongs to the board: both are of one table, and its view has the constants of the board's run
pub record IsLoneOf (b : BoardView) (l : LoneView) : Type 0 where
  pub table : l.table ≡ b.table
  pub known : l.view.constants ≡ Some b.known

-- a seat of each task stands where it stood before
pub record StandAs (before after : List JobSeatView) : Type 0 where
  pub tasks : length after ≡ length before
  pub each : (i : ℕ) (s : JobSeatView) → slice_get before i ≡ Some s → (t : JobSeatView) × (slice_get after i ≡ Some t) × (t.task ≡ s.task) × StaysAt s t

-- its view has all parts, and each task stands as the view says
pub record IsWhole (k : Constants) (l : LoneView) : Type 0 where
  pub tasks : length l.seats ≡ (run_of k).tasks
  pub each : (i : ℕ) (s : JobSeatView) → slice_get l.seats i ≡ Some s → (s.task ≡ record { 0 = i }) × Follows k l.view i s.job s.place s.stage
  pub clock : (r : ClockPart) × (l.view.clock ≡ Some r)

-- a task's seat while the view that has all parts is lent to it
abbrev pub lent_to : LoneView → JobSeatView → JobSeatView
lent_to l s = record { table = l.table; id = l.id; view = l.view; task = s.task; job = s.job; place = s.place; stage = s.stage }

-- the seat of task i stands at such a place
abbrev pub IsPlacedAt : (Place → Type 0) → LoneView → ℕ → Type 0
IsPlacedAt may l i = (s : JobSeatView) × (slice_get l.seats i ≡ Some s) × may (place_of s.stage)

-- A call of task i answers as its seat does, to which the view that has all parts is lent. The other tasks and the clock stay as they were.
pub record IsTaskCall (i : ℕ) (before after : LoneView) (answers : JobSeatView → JobSeatView → Type 0) : Type 0 where
  pub answer : (s : JobSeatView) → slice_get before.seats i ≡ Some s →
      (t : JobSeatView) × (slice_get after.seats i ≡ Some t) × (t.task ≡ s.task) × answers (lent_to before s) (lent_to after t)
  pub tasks : length after.seats ≡ length before.seats
  pub others : (j : ℕ) → (j ≡ i → ⊥) → slice_get after.seats j ≡ slice_get before.seats j
  pub parts : (j : ℕ) → (j ≡ i → ⊥) → get_elem? after.view.tasks j ≡ get_elem? before.view.tasks j
  pub clock : after.view.clock ≡ before.view.clock

-- A call of the clock leaves the tasks as they were.
pub record IsClockCall (before after : LoneView) : Type 0 where
  pub seats : after.seats ≡ before.seats
  pub parts : after.view.tasks ≡ before.view.tasks

-- what a release answers in the whole state, by the clock's `now`
abbrev pub IsReleasedBy : Constants → JobSeatView → ℕ → Release → Type 0
IsReleasedBy k s now releases.Over = (run_of k).jobs s.task.0 ≤ s.job
IsReleasedBy k s now (releases.Early told at) =
    (s.job < (run_of k).jobs s.task.0) × (told ≡ now) × (at ≡ (run_of k).release s.task.0 s.job) × (now < at)
IsReleasedBy k s now (releases.Open job) = (s.job < (run_of k).jobs s.task.0) × (job ≡ s.job) × ((run_of k).release s.task.0 job ≤ now)

-- what a tick answers: on a gated board it waits for what is due
abbrev pub IsTicked : Constants → ClockPart → View → View → Ticked → Type 0
IsTicked k r before after (ticks.Now now) =
    (now ≡ r.now + 1) × (r.now < (run_of k).end) × (k.gate ≡ gates.Gated → IsAllSeen k r) × TickTold r before after
IsTicked k r before after (ticks.Behind task job) =
    (k.gate ≡ gates.Gated) × (r.now < (run_of k).end) × IsBehind k r task.0 job × (after ≡ before)
IsTicked k r before after ticks.End = (r.now ≡ (run_of k).end) × (after ≡ before)

-- the slot holds this tag in the whole state: the one that the task left which alone writes there
abbrev pub HoldsTag : RunConstants → List JobSeatView → ℕ → ℕ → Type 0
HoldsTag c seats slot tag = (j : ℕ) (s : JobSeatView) → IsWriter c j slot → slice_get seats j ≡ Some s → tag ≡ last_tag c j slot s.job s.place

-- the tag that a read of a half of instance m found, by its answer
abbrev pub tag_found : ℕ → Got → ℕ
tag_found m gots.Half = m + 1
tag_found m (gots.Value value) = m + 1
tag_found m (gots.NotYet cell wanted found) = found
tag_found m (gots.Overrun cell wanted found) = found

-- what a read finds is what its half holds
abbrev pub FindsTag : RunConstants → List JobSeatView → Stage → Got → Type 0
FindsTag c seats stage got = (port : ℕ) (e : EdgeNo) (m : ℕ) (slot : SlotNo) → stage ≡ stages.At (actions.Read port e m slot) →
    HoldsTag c seats slot.0 (tag_found m got)

-- after a write of a half of instance m this half holds its tag
abbrev pub LeavesTag : RunConstants → List JobSeatView → Stage → Type 0
LeavesTag c seats stage = (e : EdgeNo) (m : ℕ) (slot : SlotNo) → stage ≡ stages.At (actions.Write e m slot) → HoldsTag c seats slot.0 (m + 1)
