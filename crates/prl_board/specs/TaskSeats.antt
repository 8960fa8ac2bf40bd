-- Where a task's seat stands, and what its reads answer.
use Rattle.std.specs.Prelude.{◌≡◌, ◌+◌, ◌/◌, ◌%◌, ◌^◌, ◌<◌, ℕ, zero, suc, nat_le, if◌then◌else◌, Some}
use Rattle.prl_base.specs.declared.numbers.CellNo.{CellNo}
use Rattle.prl_base.specs.declared.numbers.EdgeNo.{EdgeNo}
use Rattle.prl_plan.specs.declared.events.Action.{Action}
use Rattle.prl_plan.specs.declared.events.Action.TheVariants as actions
use Rattle.prl_plan.specs.declared.events.SlotNo.{SlotNo}
use Rattle.prl_plan.specs.declared.graphs.Kind.TheVariants as kinds
use Rattle.prl_plan.specs.Jobs.{task_at}
use Rattle.prl_body.specs.Machines.{MachineState}
use Rattle.prl_seats.specs.declared.jobs.Stage.{Stage}
use Rattle.prl_seats.specs.declared.jobs.Stage.TheVariants as stages
use Rattle.prl_board.specs.declared.seats.Got.{Got}
use Rattle.prl_board.specs.declared.seats.Got.TheVariants as gots
use Rattle.prl_board.specs.declared.seats.Half.{Half}
use Rattle.prl_board.specs.declared.seats.Half.TheVariants as halves
use Rattle.prl_board.specs.declared.seats.Place.{Place}
use Rattle.prl_board.specs.declared.seats.Place.TheVariants as places
use Rattle.prl_board.specs.declared.seats.Wrote.{Wrote}
use Rattle.prl_rule.specs.declared.views.Constants.{Constants}
use Rattle.prl_rule.specs.declared.views.Gate.TheVariants as gates
use Rattle.prl_rule.specs.Told.{HalfTold, WriteTold}
use Rattle.prl_seats.specs.JobSeats.{GoesOn, JobSeatView, MayRaise, StaysAt}
use Rattle.prl_rule.specs.Known.{job_values_of, values_of}
use Rattle.prl_base.specs.declared.values.Value.{Value}
use Rattle.prl_plan.specs.Plans.{edge_at}
use Rattle.prl_values.specs.JobValues.{value_on}

-- which half of its cell a slot is
abbrev pub half_at : ℕ → Half
half_at zero = halves.Low
half_at (suc n) = halves.High

-- the place of an action; a constant is read as a low half
abbrev pub place_at : Action → Place
place_at (actions.ReadConst port value) = places.Reading port halves.Low
place_at (actions.Read port e m slot) = places.Reading port (half_at (slot.0 % 2))
place_at (actions.Write e m slot) = places.Writing e (half_at (slot.0 % 2))
place_at actions.End = places.Ending

abbrev pub place_of : Stage → Place
place_of stages.Over = places.Over
place_of stages.Idle = places.Idle
place_of (stages.At action) = place_at action

-- no job is open
abbrev pub MayRelease : Place → Type 0
MayRelease places.Idle = Unit {0}
MayRelease (places.Reading port half) = ⊥
MayRelease (places.Writing e half) = ⊥
MayRelease places.Ending = ⊥
MayRelease places.Over = Unit {0}

-- the open job is to read
abbrev pub MayRead : Place → Type 0
MayRead places.Idle = ⊥
MayRead (places.Reading port half) = Unit {0}
MayRead (places.Writing e half) = ⊥
MayRead places.Ending = ⊥
MayRead places.Over = ⊥

-- it is to write
abbrev pub MayWrite : Place → Type 0
MayWrite places.Idle = ⊥
MayWrite (places.Reading port half) = ⊥
MayWrite (places.Writing e half) = Unit {0}
MayWrite places.Ending = ⊥
MayWrite places.Over = ⊥

-- it is to end
abbrev pub MayFinish : Place → Type 0
MayFinish places.Idle = ⊥
MayFinish (places.Reading port half) = ⊥
MayFinish (places.Writing e half) = ⊥
MayFinish places.Ending = Unit {0}
MayFinish places.Over = ⊥

-- what a read answers that finds another tag than the wanted one
abbrev pub Misses : CellNo → ℕ → ℕ → Got → Type 0
Misses cell wanted found gots.Half = ⊥
Misses cell wanted found (gots.Value value) = ⊥
Misses cell wanted found (gots.NotYet c w f) = (c ≡ cell) × (w ≡ wanted) × (f ≡ found) × (found < wanted)
Misses cell wanted found (gots.Overrun c w f) = (c ≡ cell) × (w ≡ wanted) × (f ≡ found) × (wanted < found)

-- a read that finds another tag than the wanted one stays where it is
pub record IsMissed (m : ℕ) (slot : SlotNo) (before after : JobSeatView) (word : ℕ) (cell : CellNo) (wanted found : ℕ) : Type 0 where
  pub at : cell.0 ≡ slot.0 / 2
  pub wants : wanted ≡ m + 1
  pub finds : found ≡ word / 2 ^ 32
  pub stays : StaysAt before after

-- What a read of a half of instance m answers, by the word that was loaded: with the wanted tag it goes on, and with the high half it gives
-- the value of exactly this instance. On a gated board no later tag is found; where one is found, the seat may raise the stop.
abbrev pub AnswersHalf : Constants → ℕ → SlotNo → JobSeatView → JobSeatView → ℕ → Got → Type 0
AnswersHalf k m slot before after word gots.Half = (slot.0 % 2 ≡ 0) × (word / 2 ^ 32 ≡ m + 1) × GoesOn k before after
AnswersHalf k m slot before after word (gots.Value value) =
    (slot.0 % 2 ≡ 1) × (word / 2 ^ 32 ≡ m + 1) × (value ≡ (values_of k).stored (slot.0 / 2) m) × GoesOn k before after
AnswersHalf k m slot before after word (gots.NotYet cell wanted found) =
    IsMissed m slot before after word cell wanted found × (found < wanted)
AnswersHalf k m slot before after word (gots.Overrun cell wanted found) =
    IsMissed m slot before after word cell wanted found × (wanted < found) × (k.gate ≡ gates.Gated → ⊥) × MayRaise k after

-- a read of a half of instance m of edge e
pub record ReadsHalf (k : Constants) (e : EdgeNo) (m : ℕ) (slot : SlotNo) (before after : JobSeatView) (got : Got) : Type 0 where
  pub word : ℕ
  pub told : HalfTold k before.task.0 before.place e.0 m slot.0 before.view word after.view
  pub answer : AnswersHalf k m slot before after word got
  -- a value is what the seat's job reads on this edge
  pub named : (value : Value) → got ≡ gots.Value value → value_on (job_values_of k) (edge_at k.plan.graph e.0) before.job ≡ Some value

abbrev pub AnswersAction : Constants → JobSeatView → JobSeatView → Got → Action → Type 0
AnswersAction k before after got (actions.ReadConst port value) = (got ≡ gots.Value value) × (after.view ≡ before.view) × GoesOn k before after
AnswersAction k before after got (actions.Read port e m slot) = ReadsHalf k e m slot before after got
AnswersAction k before after got (actions.Write e m slot) = ⊥
AnswersAction k before after got actions.End = ⊥

-- what a read at this stage answers
abbrev pub AnswersRead : Constants → JobSeatView → JobSeatView → Got → Stage → Type 0
AnswersRead k before after got stages.Over = ⊥
AnswersRead k before after got stages.Idle = ⊥
AnswersRead k before after got (stages.At action) = AnswersAction k before after got action

-- what a write does: it stores a half of the job's own instance, and says which
abbrev pub WritesAction : Constants → JobSeatView → JobSeatView → Wrote → Action → Type 0
WritesAction k before after wrote (actions.ReadConst port value) = ⊥
WritesAction k before after wrote (actions.Read port e m slot) = ⊥
WritesAction k before after wrote (actions.Write e m slot) =
    (wrote ≡ record { edge = e; cell = record { 0 = slot.0 / 2 }; half = half_at (slot.0 % 2) })
    × WriteTold k before.task.0 before.place before.view after.view × GoesOn k before after
WritesAction k before after wrote actions.End = ⊥

abbrev pub AnswersWrite : Constants → JobSeatView → JobSeatView → Wrote → Stage → Type 0
AnswersWrite k before after wrote stages.Over = ⊥
AnswersWrite k before after wrote stages.Idle = ⊥
AnswersWrite k before after wrote (stages.At action) = WritesAction k before after wrote action

-- how many steps the body of the seat's task has made: one for each ended job, and one where it has run for the open job
abbrev pub steps_of : Constants → JobSeatView → ℕ
steps_of k s = s.job + (if nat_le ((values_of k).runs_at s.task.0 s.job) s.place then 1 else 0)

-- the task is a node task
abbrev pub IsNodeTask : Constants → ℕ → Type 0
IsNodeTask k i = (j : ℕ) × ((task_at k.plan.graph i).kind ≡ kinds.Node j)

-- the machine of a node task, with the registers after these steps
pub record IsMachineOf (k : Constants) (s : JobSeatView) (machine : MachineState) : Type 0 where
  pub node : IsNodeTask k s.task.0
  pub steps : machine.steps ≡ steps_of k s
  pub registers : machine.registers ≡ (values_of k).registers s.task.0 (steps_of k s)
