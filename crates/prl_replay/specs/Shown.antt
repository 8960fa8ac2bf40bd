-- What a closed board shows of the actuators.
use Rattle.std.specs.Prelude.{◌≡◌, ◌++◌, ℕ, zero, suc, List, [], ◌∷◌, length, Some, slice_get}
use Rattle.prl_board.specs.Closings.{AreOutputs, ClosedView}
use Rattle.prl_core.specs.Cores.{CoreView, opened}
use Rattle.prl_flow.specs.declared.programs.OutFlow.{OutFlow}
use Rattle.prl_plan.specs.declared.graphs.Kind.{Kind}
use Rattle.prl_plan.specs.declared.graphs.Kind.TheVariants as kinds
use Rattle.prl_plan.specs.declared.graphs.TaskGraph.{TaskGraph}
use Rattle.prl_plan.specs.Jobs.{task_at}
use Rattle.prl_plan.specs.Runs.{ExecState}
use Rattle.prl_rule.specs.declared.views.Constants.{Constants}
use Rattle.prl_seats.specs.JobSeats.{JobSeatView}

-- the flow of task i, an actuator's: the task's name and clock, and what its ended jobs have read
pub record IsShown (closed : ClosedView) (graph : TaskGraph) (i : ℕ) (out : OutFlow) : Type 0 where
  pub name : out.name ≡ (task_at graph i).name
  pub clock : out.clock ≡ (task_at graph i).clock
  pub values : (k : Constants) (s : JobSeatView) → closed.constants ≡ Some k → slice_get closed.seats i ≡ Some s → AreOutputs k i s.job out.values

-- the flows with that of task i, which has one if it is an actuator's
abbrev pub AddsShown : ClosedView → TaskGraph → ℕ → Kind → List OutFlow → List OutFlow → Type 0
AddsShown closed graph i (kinds.Sensor k) before after = after ≡ before
AddsShown closed graph i (kinds.Node k) before after = after ≡ before
AddsShown closed graph i (kinds.Actuator k) before after = (out : OutFlow) × (after ≡ before ++ out ∷ []) × IsShown closed graph i out

-- the flows of the actuators among the tasks below a number, in their order
abbrev pub AreShownBelow : ClosedView → TaskGraph → ℕ → List OutFlow → Type 0
AreShownBelow closed graph zero outs = outs ≡ []
AreShownBelow closed graph (suc i) outs = (before : List OutFlow) × AreShownBelow closed graph i before × AddsShown closed graph i (task_at graph i).kind before outs

-- the flows of all actuators, in the order of main's outputs
abbrev pub AreShown : ClosedView → TaskGraph → List OutFlow → Type 0
AreShown closed graph outs = AreShownBelow closed graph (length graph.tasks) outs

-- the machine of a run's plan in a state
abbrev pub core_in : Constants → ExecState → CoreView
core_in k s = record (opened k.plan k.bodies k.sensors k.horizon) { state = s }
