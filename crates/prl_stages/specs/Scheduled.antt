-- The horizon of a program's plan, and the schedule that is written for it.
use Rattle.std.specs.Prelude.{◌≡◌, ℕ, List}
use Rattle.prl_base.specs.declared.limits.Limit.{Limit}
use Rattle.prl_plan.specs.declared.events.Event.{Event}
use Rattle.prl_plan.specs.declared.horizons.Horizon.{Horizon}
use Rattle.prl_plan.specs.Horizons.{IsHorizon, IsPastLimit, constants_of}
use Rattle.prl_plan.specs.Plans.{PlanView}
use Rattle.prl_plan.specs.Rules.{IsLegal, IsComplete}
use Rattle.prl_plan.specs.Runs.{opening, after_events}
use Rattle.prl_schedules.specs.Dispatches.{IsDispatched}
use Rattle.prl_schedules.specs.ScheduleTexts.{task_names, text_of_events}
use Rattle.prl_stages.specs.declared.faults.Fault.{Fault}
use Rattle.prl_stages.specs.declared.faults.Fault.TheVariants as faults
use Rattle.prl_stages.specs.Given.{Given}
use Rattle.prl_stages.specs.Planned.{HasPlan}

-- the plan of the program, with its horizon up to the date
pub record HasHorizon (g : Given) (plan : PlanView) (horizon : Horizon) : Type 0 where
  pub has_plan : HasPlan g plan
  pub is_horizon : IsHorizon plan horizon
  pub until : horizon.until ≡ g.until

abbrev pub RefusesHorizon : Given → Fault → Type 0
RefusesHorizon g fault =
    (plan : PlanView) × HasPlan g plan × (limit : Limit) × IsPastLimit plan g.until limit × (fault ≡ faults.Limit limit)

-- From the first state on each event of the list keeps the rules, and in the end every job of the horizon has ended.
pub record IsWhole (plan : PlanView) (horizon : Horizon) (events : List Event) : Type 0 where
  pub legal : IsLegal (constants_of plan horizon) (opening (constants_of plan horizon)) events
  pub complete : IsComplete (constants_of plan horizon) (after_events (constants_of plan horizon) (opening (constants_of plan horizon)) events)

-- The text has a line for each event of the dispatched list, which is legal and complete.
pub record IsScheduleText (g : Given) (text : List ℕ) : Type 0 where
  pub plan : PlanView
  pub horizon : Horizon
  pub has_horizon : HasHorizon g plan horizon
  pub events : List Event
  pub dispatched : IsDispatched (constants_of plan horizon) (opening (constants_of plan horizon)) events
  pub whole : IsWhole plan horizon events
  pub written : text ≡ text_of_events (task_names plan) events
