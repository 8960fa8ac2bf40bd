-- What private functions say of runs on several processors.
use Rattle.std.specs.Prelude.{◌≡◌, ◌≢◌, true, List, All, length}
use Rattle.prl_core.specs.Cores.{opened_on}
use Rattle.prl_flow.specs.Actuators.{AreUpTo}
use Rattle.prl_plan.specs.declared.events.Event.{Event}
use Rattle.prl_plan.specs.Horizons.{Placement}
use Rattle.prl_replay.specs.declared.faults.ReplayFault.{ReplayFault}
use Rattle.prl_replay.specs.declared.faults.ReplayFault.TheVariants as causes
use Rattle.prl_replay.specs.declared.replays.Trace.{Trace}
use Rattle.prl_replay.specs.Replays.{IsReplayFault, IsTrace}
use Rattle.prl_schedules.specs.ReadTexts.{ReadsOfTasks}
use Rattle.prl_executions.specs.declared.ready.Ready.{Ready}
use Rattle.prl_stages.specs.declared.faults.InputFile.TheVariants as parts
use Rattle.prl_stages.specs.Given.{Given, text_of}
use Rattle.prl_stages.specs.Placed.{Lists}

-- the trace of these events on the machine of the spread plan
pub record IsTraceOn (r : Ready) (placement : Placement) (events : List Event) (trace : Trace) : Type 0 where
  pub is : IsTrace (opened_on r.plan placement r.bodies r.sensors r.horizon) events trace.reads trace.outputs
  pub reads : All (ReadsOfTasks (length r.plan.graph.tasks)) trace.reads
  pub outputs : AreUpTo r.horizon.until trace.outputs

-- the trace of the events that are asked for
pub record IsPlacedTrace (g : Given) (r : Ready) (placement : Placement) (trace : Trace) : Type 0 where
  pub events : List Event
  pub listed : Lists g.listed g r.plan placement r.horizon events
  pub traced : IsTraceOn r placement events trace

-- a schedule is named, and it is no whole run; or memory ran out
pub record FailsPlaced (g : Given) (r : Ready) (placement : Placement) (fault : ReplayFault) : Type 0 where
  pub named : fault ≢ causes.Memory → g.listed ≡ true
  pub cause : fault ≢ causes.Memory → IsReplayFault (opened_on r.plan placement r.bodies r.sensors r.horizon) (text_of g parts.Schedule) fault
