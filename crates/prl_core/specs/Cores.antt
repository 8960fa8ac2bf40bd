-- What is seen of the machine, and what it tells.
use Rattle.std.specs.Prelude.{◌≡◌, ◌+◌, ◌%◌, ◌<◌, ℕ, zero, suc, List, length, Some, slice_get, slice_index}
use Rattle.prl_base.specs.declared.numbers.CellNo.{CellNo}
use Rattle.prl_base.specs.declared.numbers.EdgeNo.{EdgeNo}
use Rattle.prl_base.specs.declared.numbers.TaskNo.{TaskNo}
use Rattle.prl_base.specs.declared.values.Value.{Value}
use Rattle.prl_body.specs.Machines.{MachineState}
use Rattle.prl_body.specs.declared.bodies.CheckedBody.{CheckedBody}
use Rattle.prl_flow.specs.Applications.{registers_before}
use Rattle.prl_flow.specs.Rows.{Rows}
use Rattle.prl_plan.specs.declared.events.Action.{Action}
use Rattle.prl_plan.specs.declared.events.Action.TheVariants as actions
use Rattle.prl_plan.specs.declared.events.Event.{Event}
use Rattle.prl_plan.specs.declared.events.Event.TheVariants as events
use Rattle.prl_plan.specs.declared.graphs.Kind.TheVariants as kinds
use Rattle.prl_plan.specs.declared.horizons.Horizon.{Horizon}
use Rattle.prl_plan.specs.declared.walks.Operand.TheVariants as operands
use Rattle.prl_plan.specs.Facts.{ReadsAt}
use Rattle.prl_plan.specs.Horizons.{Placement, alone, constants_on}
use Rattle.prl_plan.specs.Jobs.{task_at}
use Rattle.prl_plan.specs.Operands.{operand_of}
use Rattle.prl_plan.specs.Plans.{PlanView, edge_at, cell_of, low, high}
use Rattle.prl_plan.specs.Rules.{first_unfinished}
use Rattle.prl_plan.specs.Runs.{RunConstants, ExecState, opening, next_action}
use Rattle.prl_values.specs.BodyRuns.{steps_made}
use Rattle.prl_values.specs.JobValues.{JobValues, job_values, value_on, reads_of_job, body_of_task}
use Rattle.prl_track.specs.declared.seen.Seen.{Seen}
use Rattle.prl_track.specs.declared.seen.Seen.TheVariants as sights
use Rattle.prl_track.specs.Machine.{cell_no, sight_of_write}

-- what is seen of the machine: its plan, where the tasks run, the bodies, the rows of the sensors, the horizon, and the state of the run
pub record CoreView : Type 0 where
  pub plan : PlanView
  pub placement : Placement
  pub bodies : List CheckedBody
  pub rows : Rows
  pub horizon : Horizon
  pub state : ExecState

-- the constants of its run
abbrev pub constants : CoreView → RunConstants
constants core = constants_on core.plan core.placement core.horizon

-- the values by instance of its jobs
abbrev pub values_of : CoreView → JobValues
values_of core = job_values core.plan.graph core.bodies core.rows core.horizon.until

-- the machine before the first event
abbrev pub opened_on : PlanView → Placement → List CheckedBody → Rows → Horizon → CoreView
opened_on plan placement bodies rows horizon =
    record { plan = plan; placement = placement; bodies = bodies; rows = rows; horizon = horizon; state = opening (constants_on plan placement horizon) }

-- where all tasks run on one processor
abbrev pub opened : PlanView → List CheckedBody → Rows → Horizon → CoreView
opened plan bodies rows horizon = opened_on plan (alone plan) bodies rows horizon

-- the half is empty, or each horizon job that reads the instance in it has ended
abbrev pub IsSlotFree : CoreView → ℕ → Type 0
IsSlotFree core slot =
    (i n place m : ℕ) → ReadsAt (constants core) i n place m slot → slice_index core.state.tags slot ≡ m + 1 → n < slice_index core.state.ended i

-- Job n of a task reads instance m at a port of its edge, in this cell: the instance is the job's operand, the cell is the
-- one of the instance, both its halves hold the instance, and the value is that by instance.
pub record IsRead (core : CoreView) (task : TaskNo) (n port : ℕ) (edge : EdgeNo) (m : ℕ) (cell : CellNo) (value : Value) : Type 0 where
  pub inside : edge.0 < length core.plan.graph.edges
  pub consumer : (edge_at core.plan.graph edge.0).to.0 ≡ task.0
  pub stands : (edge_at core.plan.graph edge.0).port ≡ port
  pub operand : operand_of (edge_at core.plan.graph edge.0) n ≡ operands.From m
  pub place : cell.0 ≡ cell_of core.plan edge.0 m
  pub low_half : slice_index core.state.tags (low cell.0) ≡ m + 1
  pub high_half : slice_index core.state.tags (high cell.0) ≡ m + 1
  pub told : value_on (values_of core) (edge_at core.plan.graph edge.0) n ≡ Some value

-- job n of a task reads a constant at a port, and this is the job's operand there
pub record IsReadConst (core : CoreView) (task : TaskNo) (n port : ℕ) (value : Value) : Type 0 where
  pub edge : ℕ
  pub inside : edge < length core.plan.graph.edges
  pub consumer : (edge_at core.plan.graph edge).to.0 ≡ task.0
  pub stands : (edge_at core.plan.graph edge).port ≡ port
  pub operand : operand_of (edge_at core.plan.graph edge) n ≡ operands.Const value

-- What is told of a read of a half: of a low half that it is read, of a high half the read of the instance.
abbrev pub IsSightOfRead : CoreView → TaskNo → ℕ → ℕ → EdgeNo → ℕ → CellNo → ℕ → Seen → Type 0
IsSightOfRead core task n port edge m cell zero seen = seen ≡ sights.Half task n edge cell
IsSightOfRead core task n port edge m cell (suc half) seen =
    (value : Value) × (seen ≡ sights.Read task n port edge m cell value) × IsRead core task n port edge m cell value

-- What is told of an action of job n of a task. A read of a half finds its instance there, and a write finds its half free.
abbrev pub IsSightOf : CoreView → TaskNo → ℕ → Action → Seen → Type 0
IsSightOf core task n (actions.ReadConst port value) seen = (seen ≡ sights.ReadConst task n port value) × IsReadConst core task n port value
IsSightOf core task n (actions.Read port edge m slot) seen =
    (slice_index core.state.tags slot.0 ≡ m + 1) × IsSightOfRead core task n port edge m (cell_no slot) (slot.0 % 2) seen
IsSightOf core task n (actions.Write edge m slot) seen =
    IsSlotFree core slot.0 × (seen ≡ sight_of_write task n edge (cell_no slot) (slot.0 % 2))
IsSightOf core task n actions.End seen = seen ≡ sights.Ended task n

-- what is told of an event
abbrev pub Tells : CoreView → Event → Seen → Type 0
Tells core events.Tick seen = seen ≡ sights.Ticked (core.state.now + 1)
Tells core (events.Act task) seen =
    IsSightOf core task (first_unfinished core.state task.0) (next_action (constants core) core.state task.0) seen

-- The values are those by instance that the ended jobs of task i read, in order, on each edge into it.
pub record AreOutputs (core : CoreView) (i : ℕ) (values : List Value) : Type 0 where
  pub ended : length values ≡ slice_index core.state.ended i
  pub each : (e n : ℕ) → e < length core.plan.graph.edges → (edge_at core.plan.graph e).to.0 ≡ i → n < slice_index core.state.ended i →
      slice_get values n ≡ value_on (values_of core) (edge_at core.plan.graph e) n

-- The machine of task i, a node task: it has made one step for each job whose body has run, on what these jobs read.
pub record IsMachineOf (core : CoreView) (i : ℕ) (machine : MachineState) : Type 0 where
  pub body : CheckedBody
  pub named : body_of_task core.bodies (task_at core.plan.graph i) ≡ Some body
  pub node : (k : ℕ) × ((task_at core.plan.graph i).kind ≡ kinds.Node k)
  pub steps : machine.steps ≡ steps_made core.plan core.state i
  pub registers : machine.registers
      ≡ registers_before body (reads_of_job core.plan.graph (values_of core) i) (steps_made core.plan core.state i)

-- task i is no node task
abbrev pub IsNoNode : CoreView → ℕ → Type 0
IsNoNode core i = (k : ℕ) → (task_at core.plan.graph i).kind ≡ kinds.Node k → ⊥
