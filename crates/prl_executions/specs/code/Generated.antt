-- What private functions say of generated programs.
use Rattle.std.specs.Prelude.{List}
use Rattle.prl_core.specs.Cores.{opened}
use Rattle.prl_flow.specs.declared.programs.OutFlow.{OutFlow}
use Rattle.prl_flow.specs.Actuators.{AreUpTo}
use Rattle.prl_plan.specs.declared.events.Event.{Event}
use Rattle.prl_plan.specs.Horizons.{constants_of}
use Rattle.prl_plan.specs.Runs.{opening}
use Rattle.prl_replay.specs.Replays.{IsTrace}
use Rattle.prl_schedules.specs.Dispatches.{IsDispatched}
use Rattle.prl_track.specs.declared.seen.Seen.{Seen}
use Rattle.prl_executions.specs.declared.ready.Ready.{Ready}

-- the dispatched list tells this
pub record IsReplayed (r : Ready) (told : List Seen) (flows : List OutFlow) : Type 0 where
  pub events : List Event
  pub dispatched : IsDispatched (constants_of r.plan r.horizon) (opening (constants_of r.plan r.horizon)) events
  pub trace : IsTrace (opened r.plan r.bodies r.sensors r.horizon) events told flows
  pub up_to : AreUpTo r.horizon.until flows
