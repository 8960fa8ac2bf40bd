-- What a store asks for and does at an action.
use Rattle.std.specs.Prelude.{◌≡◌, ◌+◌, ◌<◌, ◌%◌, ℕ, zero, suc, false, List, length, Some, slice_get, slice_set}
use Rattle.prl_base.specs.declared.numbers.TaskNo.{TaskNo}
use Rattle.prl_base.specs.declared.values.Value.{Value}
use Rattle.prl_body.specs.declared.bodies.CheckedBody.{CheckedBody}
use Rattle.prl_flow.specs.Rows.{Rows}
use Rattle.prl_plan.specs.declared.events.Action.{Action}
use Rattle.prl_plan.specs.declared.events.Action.TheVariants as actions
use Rattle.prl_plan.specs.declared.graphs.Producer.TheVariants as producers
use Rattle.prl_plan.specs.declared.graphs.TaskGraph.{TaskGraph}
use Rattle.prl_plan.specs.Plans.{PlanView, edge_at}
use Rattle.prl_track.specs.declared.seen.Seen.{Seen}
use Rattle.prl_track.specs.declared.seen.Seen.TheVariants as sights
use Rattle.prl_track.specs.Machine.{cell_no, sight_of_write}
use Rattle.prl_values.specs.declared.workers.Worker.{Worker}
use Rattle.prl_values.specs.Workers.{IsNewWorker, IsReady, HasTaken, HasBegun, HasEnded}

-- the workers of all tasks before the first event
pub record AreNewWorkers (plan : PlanView) (bodies : List CheckedBody) (until : ℕ) (workers : List Worker) : Type 0 where
  pub tasks : length workers ≡ length plan.graph.tasks
  pub each : (i : ℕ) (worker : Worker) → slice_get workers i ≡ Some worker → IsNewWorker plan bodies until i worker

-- the worker may take the operand of a port
pub record CanTake (rows : Rows) (bodies : List CheckedBody) (workers : List Worker) (i n port : ℕ) (value : Value) : Type 0 where
  pub worker : Worker
  pub its : slice_get workers i ≡ Some worker
  pub inside : port < length worker.operands.items
  pub ready : port + 1 ≡ length worker.operands.items → IsReady rows bodies n (slice_set worker.operands.items port value) worker

pub record CanBegin (rows : Rows) (bodies : List CheckedBody) (workers : List Worker) (i n : ℕ) : Type 0 where
  pub worker : Worker
  pub its : slice_get workers i ≡ Some worker
  pub ready : worker.ran ≡ false → IsReady rows bodies n worker.operands.items worker

-- the worker may give what it has at an output
pub record CanGive (rows : Rows) (bodies : List CheckedBody) (workers : List Worker) (i n out : ℕ) : Type 0 where
  pub begins : CanBegin rows bodies workers i n
  pub inside : (next : Worker) → HasBegun rows bodies n begins.worker next → out < length next.outputs.items

-- what a read of a half needs
abbrev pub CanRead : Rows → List CheckedBody → List Value → List Worker → ℕ → ℕ → ℕ → ℕ → ℕ → Type 0
CanRead rows bodies halves workers i n port slot zero = Unit {0}
CanRead rows bodies halves workers i n port slot (suc half) = (value : Value) × (slice_get halves slot ≡ Some value) × CanTake rows bodies workers i n port value

-- what an action of job n of task i needs
abbrev pub CanServe : TaskGraph → Rows → List CheckedBody → List Value → List Worker → ℕ → ℕ → Action → Type 0
CanServe graph rows bodies halves workers i n (actions.ReadConst port value) = CanTake rows bodies workers i n port value
CanServe graph rows bodies halves workers i n (actions.Read port edge m slot) =
    (slot.0 < length halves) × CanRead rows bodies halves workers i n port slot.0 (slot.0 % 2)
CanServe graph rows bodies halves workers i n (actions.Write edge m slot) =
    (edge.0 < length graph.edges) × (slot.0 < length halves)
    × ((from : TaskNo) × (out : ℕ) × ((edge_at graph edge.0).from ≡ producers.Port from out) × CanGive rows bodies workers i n out)
CanServe graph rows bodies halves workers i n actions.End = CanBegin rows bodies workers i n

-- the worker of task i takes the operand of a port
pub record Takes (rows : Rows) (bodies : List CheckedBody) (i n port : ℕ) (value : Value) (before after : List Worker) : Type 0 where
  pub worker : Worker
  pub next : Worker
  pub its : slice_get before i ≡ Some worker
  pub takes : HasTaken rows bodies port n value worker next
  pub workers : after ≡ slice_set before i next

-- what a read of a half does, and what is told
abbrev pub DoesRead : Rows → List CheckedBody → List Value → List Worker → List Worker → TaskNo → ℕ → ℕ → Action → ℕ → Seen → Type 0
DoesRead rows bodies halves before after task n port (actions.Read q edge m slot) zero seen =
    (after ≡ before) × (seen ≡ sights.Half task n edge (cell_no slot))
DoesRead rows bodies halves before after task n port (actions.Read q edge m slot) (suc half) seen =
    (value : Value) × (slice_get halves slot.0 ≡ Some value) × Takes rows bodies task.0 n port value before after
    × (seen ≡ sights.Read task n port edge m (cell_no slot) value)
DoesRead rows bodies halves before after task n port _ half seen = ⊥

-- the worker of task i runs its body, where it has not, and gives what it has at an output
pub record Gives (rows : Rows) (bodies : List CheckedBody) (i n out slot : ℕ) (halves halves' : List Value) (before after : List Worker) : Type 0 where
  pub worker : Worker
  pub next : Worker
  pub its : slice_get before i ≡ Some worker
  pub begins : HasBegun rows bodies n worker next
  pub workers : after ≡ slice_set before i next
  pub value : Value
  pub given : slice_get next.outputs.items out ≡ Some value
  pub stored : halves' ≡ slice_set halves slot value

-- the worker of task i runs its body, where it has not, and ends its job
pub record Ends (rows : Rows) (bodies : List CheckedBody) (i n : ℕ) (before after : List Worker) : Type 0 where
  pub worker : Worker
  pub begun : Worker
  pub next : Worker
  pub its : slice_get before i ≡ Some worker
  pub begins : HasBegun rows bodies n worker begun
  pub ends : HasEnded begun next
  pub workers : after ≡ slice_set before i next

-- what an action does, and what is told
abbrev pub Serves : TaskGraph → Rows → List CheckedBody → TaskNo → ℕ → List Value → List Value → List Worker → List Worker → Action → Seen → Type 0
Serves graph rows bodies task n halves halves' before after (actions.ReadConst port value) seen =
    (halves' ≡ halves) × Takes rows bodies task.0 n port value before after × (seen ≡ sights.ReadConst task n port value)
Serves graph rows bodies task n halves halves' before after (actions.Read port edge m slot) seen =
    (halves' ≡ halves) × DoesRead rows bodies halves before after task n port (actions.Read port edge m slot) (slot.0 % 2) seen
Serves graph rows bodies task n halves halves' before after (actions.Write edge m slot) seen =
    ((from : TaskNo) × (out : ℕ) × ((edge_at graph edge.0).from ≡ producers.Port from out) × Gives rows bodies task.0 n out slot.0 halves halves' before after)
    × (seen ≡ sight_of_write task n edge (cell_no slot) (slot.0 % 2))
Serves graph rows bodies task n halves halves' before after actions.End seen =
    (halves' ≡ halves) × Ends rows bodies task.0 n before after × (seen ≡ sights.Ended task n)
