-- A program's plan on several processors: where its tasks run, which texts of processors and which schedules are refused, and the text of a run.
use Rattle.std.specs.Prelude.{◌≡◌, ◌++◌, ℕ, Bool, true, false, List, [], Option, Some, None, Ok, Err}
use Rattle.prl_core.specs.Cores.{opened_on}
use Rattle.prl_cores.specs.declared.texts.CoresFault.{CoresFault}
use Rattle.prl_cores.specs.declared.texts.CoresFault.TheVariants as unplaced
use Rattle.prl_cores.specs.Processors.{processors_of}
use Rattle.prl_flow.specs.declared.programs.OutFlow.{OutFlow}
use Rattle.prl_flow.specs.Actuators.{actuator_text}
use Rattle.prl_plan.specs.declared.events.Event.{Event}
use Rattle.prl_plan.specs.declared.graphs.TaskGraph.{TaskGraph}
use Rattle.prl_plan.specs.declared.horizons.Horizon.{Horizon}
use Rattle.prl_plan.specs.Horizons.{Placement, constants_of, constants_on}
use Rattle.prl_plan.specs.Jobs.{task_at}
use Rattle.prl_plan.specs.Plans.{PlanView}
use Rattle.prl_plan.specs.Rules.{IsComplete, IsGated, IsLegal}
use Rattle.prl_plan.specs.Runs.{opening, after_events}
use Rattle.prl_plan.specs.Spread.{IsSpread}
use Rattle.prl_replay.specs.declared.faults.ReplayFault.{ReplayFault}
use Rattle.prl_replay.specs.Replays.{IsReplayFault, IsTrace}
use Rattle.prl_schedules.specs.Dispatches.{IsDispatched}
use Rattle.prl_schedules.specs.ReadTexts.{text_of_reads}
use Rattle.prl_schedules.specs.Schedules.{schedule_of}
use Rattle.prl_schedules.specs.ScheduleTexts.{task_names}
use Rattle.prl_track.specs.declared.seen.Seen.{Seen}
use Rattle.prl_stages.specs.declared.faults.CoresRefusal.{CoresRefusal}
use Rattle.prl_stages.specs.declared.faults.CoresRefusal.TheVariants as bad_cores
use Rattle.prl_stages.specs.declared.faults.InputFile.TheVariants as parts
use Rattle.prl_stages.specs.declared.faults.Fault.{Fault}
use Rattle.prl_stages.specs.declared.faults.Fault.TheVariants as faults
use Rattle.prl_stages.specs.declared.faults.ScheduleRefusal.{ScheduleRefusal}
use Rattle.prl_stages.specs.Given.{Given, text_of}
use Rattle.prl_stages.specs.Planned.{HasPlan}
use Rattle.prl_stages.specs.Replayed.{Execution, schedule_refusal}
use Rattle.prl_stages.specs.Runs.{meant_flows}
use Rattle.prl_stages.specs.Scheduled.{HasHorizon}

-- the plan, spread over the processors that the text gives its tasks
pub record HasPlacement (g : Given) (plan : PlanView) (placement : Placement) : Type 0 where
  pub has_plan : HasPlan g plan
  pub read : processors_of (task_names plan) (text_of g parts.Cores) ≡ Ok placement.processors
  pub spread : IsSpread plan placement

-- a fault of a text of processors as a refusal, which has the name of the task for its number; want of memory is none
abbrev pub cores_refusal : TaskGraph → CoresFault → Option CoresRefusal
cores_refusal graph (unplaced.Syntax line) = Some (bad_cores.Syntax line)
cores_refusal graph (unplaced.Missing task) = Some (bad_cores.Missing (task_at graph task.0).name)
cores_refusal graph unplaced.Memory = None

abbrev pub RefusesCores : Given → Fault → Type 0
RefusesCores g fault =
    (plan : PlanView) × HasPlan g plan × (cause : CoresFault) × (processors_of (task_names plan) (text_of g parts.Cores) ≡ Err cause)
    × (refusal : CoresRefusal) × (cores_refusal plan.graph cause ≡ Some refusal) × (fault ≡ faults.Cores refusal)

-- The events of the schedule, where one is named; else the dispatched list: of all processors the released job that is due earliest acts.
abbrev pub Lists : Bool → Given → PlanView → Placement → Horizon → List Event → Type 0
Lists true g plan placement horizon events = schedule_of (task_names plan) (text_of g parts.Schedule) ≡ Ok events
Lists false g plan placement horizon events = IsDispatched (constants_on plan placement horizon) (opening (constants_on plan placement horizon)) events

-- From the first state on each event of the list keeps the rules, priority by processor, and in the end every job of the horizon
-- has ended.
pub record IsPlacedRun (g : Given) (plan : PlanView) (placement : Placement) (horizon : Horizon) : Type 0 where
  pub has_horizon : HasHorizon g plan horizon
  pub has_placement : HasPlacement g plan placement
  pub events : List Event
  pub listed : Lists g.listed g plan placement horizon events
  pub legal : IsLegal (constants_on plan placement horizon) (opening (constants_on plan placement horizon)) events
  pub complete : IsComplete (constants_on plan placement horizon) (after_events (constants_on plan placement horizon) (opening (constants_on plan placement horizon)) events)

-- a schedule that is named is no such run
pub record RefusesPlaced (g : Given) (fault : Fault) : Type 0 where
  pub plan : PlanView
  pub placement : Placement
  pub horizon : Horizon
  pub has_horizon : HasHorizon g plan horizon
  pub has_placement : HasPlacement g plan placement
  pub listed : g.listed ≡ true
  pub cause : ReplayFault
  pub is_cause : IsReplayFault (opened_on plan placement [] [] horizon) (text_of g parts.Schedule) cause
  pub refusal : ScheduleRefusal
  pub told : schedule_refusal plan.graph cause ≡ Some refusal
  pub is : fault ≡ faults.Schedule refusal

-- The list is done on the machine of the program's plan, spread over the processors, with the bodies and the rows of the texts, and
-- this tells what the jobs read and what the actuators got: main's outputs. It is a gated list of the plan on one processor, so each
-- read finds its instance. The text is that of the reads and of the actuators.
pub record IsCoresText (g : Given) (text : List ℕ) : Type 0 where
  pub execution : Execution g
  pub placement : Placement
  pub has_placement : HasPlacement g execution.plan placement
  pub events : List Event
  pub listed : Lists g.listed g execution.plan placement execution.horizon events
  pub gated : IsGated (constants_of execution.plan execution.horizon) (opening (constants_of execution.plan execution.horizon)) events
  pub reads : List Seen
  pub outs : List OutFlow
  pub trace : IsTrace (opened_on execution.plan placement execution.meaning.bodies execution.meaning.rows execution.horizon) events reads outs
  pub outputs : outs ≡ meant_flows g execution.meaning
  pub written : text ≡ text_of_reads (task_names execution.plan) reads ++ actuator_text g.until outs
