-- Walks: how far the tasks are after some events, in whatever horizon.
use Rattle.std.specs.Prelude.{◌≡◌, ◌≤◌, ℕ, List, Option, MatchOption, length}
use Rattle.prl_base.specs.declared.numbers.TaskNo.{TaskNo}
use Rattle.prl_plan.specs.declared.events.Event.{Event}
use Rattle.prl_plan.specs.declared.events.Event.TheVariants as events
use Rattle.prl_plan.specs.declared.events.Rule.{Rule}
use Rattle.prl_plan.specs.declared.horizons.Horizon.{Horizon}
use Rattle.prl_plan.specs.Horizons.{IsHorizon, constants_of}
use Rattle.prl_plan.specs.Plans.{PlanView}
use Rattle.prl_plan.specs.Rules.{FirstBroken, HasJob, IsLegal, KeepsLegal}
use Rattle.prl_plan.specs.Runs.{ExecState, RunConstants, after_event, after_events, opening}
use Rattle.prl_plan.specs.States.{IsSound}
use Rattle.prl_schedules.specs.declared.causes.Cause.{Cause}
use Rattle.prl_schedules.specs.declared.walks.Walk.{Walk}
use Rattle.prl_schedules.specs.Causes.{IsCause}

-- The constants of a run of the plan with no job: what an event makes of a state does not depend on the horizon.
abbrev pub any_run : PlanView → RunConstants
any_run plan = constants_of plan (record { until = 0; end = 0; jobs = 0; events = 0 })

-- the state after these events
abbrev pub state_after : PlanView → List Event → ExecState
state_after plan list = after_events (any_run plan) (opening (any_run plan)) list

-- the walk shows the tick and how far the tasks are
pub record Shows (s : ExecState) (walk : Walk) : Type 0 where
  pub tick : s.now ≡ walk.tick
  pub ended : s.ended ≡ walk.ended.items
  pub places : s.places ≡ walk.places.items

-- it has the tasks of the plan
abbrev pub IsOfSize : PlanView → Walk → Type 0
IsOfSize plan walk = (length walk.ended.items ≡ length plan.graph.tasks) × (length walk.places.items ≡ length plan.graph.tasks)

-- the walk along these events
pub record IsWalk (plan : PlanView) (list : List Event) (walk : Walk) : Type 0 where
  pub shows : Shows (state_after plan list) walk
  pub size : IsOfSize plan walk
  pub few : walk.tick ≤ length list

-- what an event makes of a walk
abbrev pub Steps : PlanView → Event → Walk → Walk → Type 0
Steps plan event walk walk' = (s : ExecState) → Shows s walk → Shows (after_event (any_run plan) s event) walk'

-- no horizon allows the event
abbrev pub IsForbidden : PlanView → Event → Walk → Type 0
IsForbidden plan event walk =
    (h : Horizon) → IsHorizon plan h → (s : ExecState) → Shows s walk → KeepsLegal (constants_of plan h) s event → ⊥

-- no horizon allows all of these events
abbrev pub AreForbidden : PlanView → List Event → Type 0
AreForbidden plan list = (h : Horizon) → IsHorizon plan h → IsLegal (constants_of plan h) (opening (constants_of plan h)) list → ⊥

-- a state that a legal list leads to, where a walk is
pub record IsReached (c : RunConstants) (s : ExecState) (walk : Walk) : Type 0 where
  pub shows : Shows s walk
  pub sound : IsSound c s
  pub within : s.now ≤ c.end

-- what an event is about that breaks a rule there, in whatever horizon; nothing where it breaks the rule in none
abbrev pub IsCauseThere : PlanView → Walk → Event → Rule → Option Cause → Type 0
IsCauseThere plan walk event rule cause =
    (h : Horizon) → IsHorizon plan h → (s : ExecState) → IsReached (constants_of plan h) s walk →
    FirstBroken (constants_of plan h) s event rule → MatchOption cause ⊥ (IsCause (constants_of plan h) s event rule)
