-- Schedules: their events are of the plan's tasks.
use Rattle.prl_base.proofs.Standard.{List, [], ◌∷◌, All, All-nil, All-cons}
use Rattle.prl_track.specs.Machine.{IsOfPlan}
use Rattle.prl_plan.specs.Vocabulary.{Placement, constants_on, PlanView, IsLegal, KeepsLegal, ExecState, after_event}
use Rattle.prl_plan.specs.declared.events.Event.{Event}
use Rattle.prl_plan.specs.declared.horizons.Horizon.{Horizon}
use Rattle.prl_plan.specs.declared.events.Event.TheVariants as events

module _ (plan : PlanView) (placement : Placement) (horizon : Horizon) where
  one_of_plan : (s : ExecState) (event : Event) → KeepsLegal (constants_on plan placement horizon) s event → IsOfPlan plan event
  one_of_plan s events.Tick keeps = tt
  one_of_plan s (events.Act task) keeps = keeps.0.task

  -- the events of a legal list are of the plan's tasks
  pub legal_of_plan : (s : ExecState) (list : List Event) → IsLegal (constants_on plan placement horizon) s list → All (IsOfPlan plan) list
  legal_of_plan s [] legal = All-nil (IsOfPlan plan)
  legal_of_plan s (event ∷ list) legal =
      All-cons (IsOfPlan plan) event list (one_of_plan s event legal.0) (legal_of_plan (after_event (constants_on plan placement horizon) s event) list legal.1)
