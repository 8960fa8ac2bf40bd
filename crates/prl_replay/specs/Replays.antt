-- What it is to replay a schedule.
use Rattle.std.specs.Prelude.{◌≡◌, ◌≢◌, ◌+◌, ◌++◌, ℕ, zero, suc, Bool, true, false, List, [], ◌∷◌, take, filter, Ok, Err, Some, length, slice_get}
use Rattle.prl_flow.specs.declared.programs.OutFlow.{OutFlow}
use Rattle.prl_plan.specs.declared.events.Event.{Event}
use Rattle.prl_plan.specs.declared.graphs.Kind.{Kind}
use Rattle.prl_plan.specs.declared.graphs.Kind.TheVariants as kinds
use Rattle.prl_plan.specs.Jobs.{task_at}
use Rattle.prl_plan.specs.Rules.{IsLegal, IsComplete, FirstBroken, IsFirstUnfinished}
use Rattle.prl_plan.specs.Runs.{after_event, after_events}
use Rattle.prl_track.specs.declared.seen.Seen.{Seen}
use Rattle.prl_track.specs.declared.seen.Seen.TheVariants as sights
use Rattle.prl_core.specs.Cores.{CoreView, constants, Tells, AreOutputs}
use Rattle.prl_schedules.specs.declared.schedules.ScheduleFault.{ScheduleFault}
use Rattle.prl_schedules.specs.declared.schedules.ScheduleFault.TheVariants as lines
use Rattle.prl_schedules.specs.Schedules.{schedule_of}
use Rattle.prl_schedules.specs.ScheduleTexts.{task_names}
use Rattle.prl_replay.specs.declared.faults.ReplayFault.{ReplayFault}
use Rattle.prl_replay.specs.declared.faults.ReplayFault.TheVariants as faults

-- a job read an instance or took a constant
abbrev pub is_read : Seen → Bool
is_read (sights.Ticked tick) = false
is_read (sights.Read task job port edge instance cell value) = true
is_read (sights.ReadConst task job port value) = true
is_read (sights.Half task job edge cell) = false
is_read (sights.Wrote task job edge cell) = false
is_read (sights.Ended task job) = false

-- the machine after an event
abbrev pub after : CoreView → Event → CoreView
after core event = record core { state = after_event (constants core) core.state event }

-- the machine after a list of events
abbrev pub after_all : CoreView → List Event → CoreView
after_all core events = record core { state = after_events (constants core) core.state events }

-- what is told of each event, one after another
abbrev pub TellsAll : CoreView → List Event → List Seen → Type 0
TellsAll core [] [] = Unit {0}
TellsAll core [] (seen ∷ seens) = ⊥
TellsAll core (event ∷ events) [] = ⊥
TellsAll core (event ∷ events) (seen ∷ seens) = Tells core event seen × TellsAll (after core event) events seens

-- The events are legal and complete, and these are the reads among what is told of them.
pub record IsReplay (core : CoreView) (events : List Event) (reads : List Seen) : Type 0 where
  pub legal : IsLegal (constants core) core.state events
  pub complete : IsComplete (constants core) (after_all core events).state
  pub seens : List Seen
  pub told : TellsAll core events seens
  pub kept : reads ≡ filter is_read seens

-- the flow of task i, an actuator's: the task's name and clock, and what its ended jobs read
pub record IsFlowOf (core : CoreView) (i : ℕ) (out : OutFlow) : Type 0 where
  pub name : out.name ≡ (task_at core.plan.graph i).name
  pub clock : out.clock ≡ (task_at core.plan.graph i).clock
  pub values : AreOutputs core i out.values

-- the flows with that of task i, which has one if it is an actuator's
abbrev pub AddsFlow : CoreView → ℕ → Kind → List OutFlow → List OutFlow → Type 0
AddsFlow core i (kinds.Sensor k) before after = after ≡ before
AddsFlow core i (kinds.Node k) before after = after ≡ before
AddsFlow core i (kinds.Actuator k) before after = (out : OutFlow) × (after ≡ before ++ out ∷ []) × IsFlowOf core i out

-- the flows of the actuators among the tasks below a number, in their order
abbrev pub AreFlowsBelow : CoreView → ℕ → List OutFlow → Type 0
AreFlowsBelow core zero outs = outs ≡ []
AreFlowsBelow core (suc i) outs = (before : List OutFlow) × AreFlowsBelow core i before × AddsFlow core i (task_at core.plan.graph i).kind before outs

-- What a whole run tells: the reads, and the flows of all actuators at its end.
pub record IsTrace (core : CoreView) (events : List Event) (reads : List Seen) (outs : List OutFlow) : Type 0 where
  pub run : IsReplay core events reads
  pub flows : AreFlowsBelow (after_all core events) (length core.plan.graph.tasks) outs

-- why a list of events is no whole run; a line's number is not among its reasons, nor is want of memory
abbrev pub IsRunFault : CoreView → List Event → ReplayFault → Type 0
IsRunFault core events (faults.Syntax line) = ⊥
IsRunFault core events (faults.Illegal line rule) =
    (i : ℕ) × (event : Event) × (line ≡ i + 1) × (slice_get events i ≡ Some event)
    × IsLegal (constants core) core.state (take i events) × FirstBroken (constants core) (after_all core (take i events)).state event rule
IsRunFault core events (faults.Unfinished task job) =
    IsLegal (constants core) core.state events × IsFirstUnfinished (constants core) (after_all core events).state task.0 job
IsRunFault core events faults.Memory = ⊥

-- the events are no whole run for this reason, unless it is want of memory, which may come at any events
abbrev pub FailsWith : CoreView → List Event → ReplayFault → Type 0
FailsWith core events fault = fault ≢ faults.Memory → IsRunFault core events fault

-- why a text is no whole run: a line that is no event, or else what the events break
abbrev pub IsReplayFault : CoreView → List ℕ → ReplayFault → Type 0
IsReplayFault core text (faults.Syntax line) = schedule_of (task_names core.plan) text ≡ Err (lines.Syntax line)
IsReplayFault core text fault =
    (events : List Event) × (schedule_of (task_names core.plan) text ≡ Ok events) × IsRunFault core events fault

-- what is told of a fault of a schedule's lines
abbrev pub schedule_fault : ScheduleFault → ReplayFault
schedule_fault (lines.Syntax line) = faults.Syntax line
schedule_fault lines.Memory = faults.Memory

-- the text lists events that are legal and complete
abbrev pub IsWholeText : CoreView → List ℕ → Type 0
IsWholeText core text =
    (events : List Event) × (schedule_of (task_names core.plan) text ≡ Ok events) × IsLegal (constants core) core.state events
    × IsComplete (constants core) (after_all core events).state
