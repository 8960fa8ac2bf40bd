-- What it is to replay a schedule of a program: which schedules are refused, and the text of a replay.
use Rattle.std.specs.Prelude.{◌≡◌, ◌++◌, ℕ, List, [], Option, Some, None, Ok, slice_get}
use Rattle.prl_base.specs.Clocks.{date_at}
use Rattle.prl_causal.specs.Behaviours.{state_in}
use Rattle.prl_body.specs.declared.bodies.CheckedBody.{CheckedBody}
use Rattle.prl_track.specs.declared.seen.Seen.{Seen}
use Rattle.prl_flow.specs.declared.programs.OutFlow.{OutFlow}
use Rattle.prl_flow.specs.Actuators.{actuator_text}
use Rattle.prl_flow.specs.Flows.{value_at}
use Rattle.prl_flow.specs.Programs.{FlatProgram}
use Rattle.prl_flow.specs.Rows.{Rows}
use Rattle.prl_flow.specs.States.{Timed}
use Rattle.prl_graph.specs.Ports.{InputPort, ports_of}
use Rattle.prl_graph.specs.TaskGraphs.{IsGraphOf}
use Rattle.prl_core.specs.Cores.{CoreView, opened}
use Rattle.prl_plan.specs.declared.events.Event.{Event}
use Rattle.prl_plan.specs.declared.graphs.TaskGraph.{TaskGraph}
use Rattle.prl_plan.specs.declared.horizons.Horizon.{Horizon}
use Rattle.prl_plan.specs.Jobs.{IsHorizonJob, task_at}
use Rattle.prl_plan.specs.Plans.{PlanView, edge_at}
use Rattle.prl_schedules.specs.ReadTexts.{text_of_reads}
use Rattle.prl_schedules.specs.Schedules.{schedule_of}
use Rattle.prl_schedules.specs.ScheduleTexts.{task_names}
use Rattle.prl_causal.specs.Conditions.{clocks_in}
use Rattle.prl_replay.specs.declared.faults.ReplayFault.{ReplayFault}
use Rattle.prl_replay.specs.declared.faults.ReplayFault.TheVariants as causes
use Rattle.prl_replay.specs.Replays.{IsReplayFault, IsTrace}
use Rattle.prl_values.specs.JobValues.{job_values, value_on}
use Rattle.prl_stages.specs.declared.faults.InputFile.TheVariants as parts
use Rattle.prl_stages.specs.declared.faults.ScheduleRefusal.{ScheduleRefusal}
use Rattle.prl_stages.specs.declared.faults.ScheduleRefusal.TheVariants as bad_schedule
use Rattle.prl_stages.specs.declared.faults.Fault.{Fault}
use Rattle.prl_stages.specs.declared.faults.Fault.TheVariants as faults
use Rattle.prl_stages.specs.Given.{Given, text_of}
use Rattle.prl_stages.specs.Runs.{Meaning, meant_flows}
use Rattle.prl_stages.specs.Scheduled.{HasHorizon, IsWhole}

-- the lines of the schedule name events of the plan that are legal and complete
pub record IsWholeRun (g : Given) (plan : PlanView) (horizon : Horizon) : Type 0 where
  pub has_horizon : HasHorizon g plan horizon
  pub events : List Event
  pub listed : schedule_of (task_names plan) (text_of g parts.Schedule) ≡ Ok events
  pub whole : IsWhole plan horizon events

-- the machine of a plan before the first event, with no bodies and no rows: which lists are whole is not a matter of these
abbrev pub bare : PlanView → Horizon → CoreView
bare plan horizon = opened plan [] [] horizon

-- a fault of a schedule as a refusal, which has the name of the task for its number; want of memory is none
abbrev pub schedule_refusal : TaskGraph → ReplayFault → Option ScheduleRefusal
schedule_refusal graph (causes.Syntax line) = Some (bad_schedule.Syntax line)
schedule_refusal graph (causes.Illegal line rule) = Some (bad_schedule.Illegal line rule)
schedule_refusal graph (causes.Unfinished task job) = Some (bad_schedule.Unfinished (task_at graph task.0).name job)
schedule_refusal graph causes.Memory = None

abbrev pub RefusesSchedule : Given → Fault → Type 0
RefusesSchedule g fault =
    (plan : PlanView) × (horizon : Horizon) × HasHorizon g plan horizon × (cause : ReplayFault)
    × IsReplayFault (bare plan horizon) (text_of g parts.Schedule) cause × (refusal : ScheduleRefusal)
    × (schedule_refusal plan.graph cause ≡ Some refusal) × (fault ≡ faults.Schedule refusal)

-- What a job of the horizon reads at each port, by instance, is the value that the port's flow has at the job's date.
abbrev pub ReadFlows : FlatProgram → TaskGraph → List CheckedBody → Rows → ℕ → List Timed → Type 0
ReadFlows p graph bodies rows until flows =
    (e n : ℕ) (port : InputPort) (flow : Timed) → slice_get (ports_of p) e ≡ Some port → slice_get flows port.flow ≡ Some flow → IsHorizonJob graph until port.task n →
    value_on (job_values graph bodies rows until) (edge_at graph e) n ≡ value_at flow.clock flow.values (date_at (task_at graph port.task).clock n)

-- What the texts mean with the program's plan, over which tasks execute it: what their jobs read, by instance, are the values
-- of its flows in the one behaviour.
pub record Execution (g : Given) : Type 0 where
  pub meaning : Meaning g
  pub plan : PlanView
  pub horizon : Horizon
  pub has_horizon : HasHorizon g plan horizon
  pub is_graph : IsGraphOf meaning.flat (clocks_in (state_in meaning.one.one)) plan.graph
  pub meant : ReadFlows meaning.flat plan.graph meaning.bodies meaning.rows g.until (state_in meaning.one.one).flows

-- The schedule is done on the machine of the program's plan, with the bodies and the rows of the texts, and this tells what
-- the jobs read and what the actuators got: main's outputs. The text is that of the reads and of the actuators.
pub record IsReplayText (g : Given) (text : List ℕ) : Type 0 where
  pub execution : Execution g
  pub events : List Event
  pub listed : schedule_of (task_names execution.plan) (text_of g parts.Schedule) ≡ Ok events
  pub reads : List Seen
  pub outs : List OutFlow
  pub trace : IsTrace (opened execution.plan execution.meaning.bodies execution.meaning.rows execution.horizon) events reads outs
  pub outputs : outs ≡ meant_flows g execution.meaning
  pub written : text ≡ text_of_reads (task_names execution.plan) reads ++ actuator_text g.until outs
