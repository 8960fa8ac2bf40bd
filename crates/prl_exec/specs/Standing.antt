-- How one thread that holds all seats of a board stands in a run.
use Rattle.std.specs.Prelude.{◌≡◌, ◌<◌, ◌≤◌, ◌⊎◌, ◌↔◌, ◌++◌, ℕ, List, [], ◌∷◌, Bool, true, false, length, slice_get, slice_index, Some}
use Rattle.prl_plan.specs.declared.events.Action.{Action}
use Rattle.prl_plan.specs.declared.events.Event.{Event}
use Rattle.prl_plan.specs.declared.events.Event.TheVariants as events
use Rattle.prl_plan.specs.Facts.{HasPlanFacts}
use Rattle.prl_plan.specs.LastTags.{IsLeft}
use Rattle.prl_plan.specs.Rules.{ActsReleased, HasJob, IsFree, IsUnfinished, KeepsFree, KeepsGated}
use Rattle.prl_plan.specs.Runs.{RunConstants, ExecState, opening, after_event, after_events}
use Rattle.prl_plan.specs.States.{IsLeastReleased, IsSound}
use Rattle.prl_rule.specs.declared.views.ClockPart.{ClockPart}
use Rattle.prl_rule.specs.declared.views.Constants.{Constants}
use Rattle.prl_rule.specs.Rule.{reached}
use Rattle.prl_seats.specs.declared.jobs.Stage.TheVariants as stages
use Rattle.prl_seats.specs.JobSeats.{JobSeatView}
use Rattle.prl_board.specs.ClockSeats.{IsUnseen}
use Rattle.prl_board.specs.Lones.{LoneView}

-- the laws of plans on which a run rests
pub record RunLaws (c : RunConstants) : Type 0 where
  pub facts : HasPlanFacts c
  pub opens : IsSound c (opening c)
  pub keeps : (s : ExecState) → IsSound c s → (event : Event) → KeepsGated c s event → IsSound c (after_event c s event)
  pub loose : (s : ExecState) (event : Event) → KeepsGated c s event → KeepsFree c s event
  pub state : (s : ExecState) (first second : List Event) → after_events c s (first ++ second) ≡ after_events c (after_events c s first) second
  pub free : (s : ExecState) (first second : List Event) → IsFree c s (first ++ second) ↔ (IsFree c s first × IsFree c (after_events c s first) second)
  pub left : (list : List Event) → IsFree c (opening c) list → IsLeft c (reached c list)
  pub goes_on : (s : ExecState) → IsSound c s → (j n : ℕ) → IsUnfinished c s j n →
      ((i : ℕ) × IsLeastReleased c s i × KeepsGated c s (events.Act (record { 0 = i })))
      ⊎ (((i : ℕ) → HasJob c s i → ActsReleased c s i → ⊥) × KeepsGated c s events.Tick)

-- the seat of task i stands as the state says, and an open job is released
pub record StandsAt (c : RunConstants) (s : ExecState) (i : ℕ) (seat : JobSeatView) : Type 0 where
  pub job : seat.job ≡ slice_index s.ended i
  pub place : seat.place ≡ slice_index s.places i
  pub released : (action : Action) → seat.stage ≡ stages.At action → c.release i seat.job ≤ s.now

-- after these events the tasks and the clock, of which this is the part, stand in the state that they lead to
pub record StandsIn (c : RunConstants) (l : LoneView) (r : ClockPart) (list : List Event) : Type 0 where
  pub tasks : length l.seats ≡ c.tasks
  pub clock : l.view.clock ≡ Some r
  pub wide : length r.looks ≡ c.tasks
  pub now : r.now ≡ (reached c list).now
  pub free : IsFree c (opening c) list
  pub sound : IsSound c (reached c list)
  pub each : (i : ℕ) (seat : JobSeatView) → slice_get l.seats i ≡ Some seat → StandsAt c (reached c list) i seat

abbrev pub act_of : ℕ → Event
act_of i = events.Act (record { 0 = i })

-- the clock has seen how many jobs of each task have ended
abbrev pub HasSeen : LoneView → ClockPart → ℕ → Type 0
HasSeen l r tasks = (i : ℕ) (seat : JobSeatView) → i < tasks → slice_get l.seats i ≡ Some seat → slice_index r.looks i ≡ seat.job

-- of each task the clock has seen how many jobs have ended, or no job that is due by the next tick is left to be seen
abbrev pub HasSeenDue : Constants → LoneView → ClockPart → ℕ → Type 0
HasSeenDue k l r tasks = (i : ℕ) (seat : JobSeatView) → i < tasks → slice_get l.seats i ≡ Some seat →
    (slice_index r.looks i ≡ seat.job) ⊎ ((n : ℕ) → IsUnseen k r i n → ⊥)

-- a poll of task i did its next action, or that may not come
abbrev pub IsPolled : RunConstants → ℕ → LoneView → ClockPart → List Event → Bool → Type 0
IsPolled c i l r list true = StandsIn c l r (list ++ act_of i ∷ [])
IsPolled c i l r list false = StandsIn c l r list × (KeepsGated c (reached c list) (act_of i) → ⊥)

-- where all seats stood as after some list of events, they stand as after a poll of task i
abbrev pub TellsPoll : RunConstants → ℕ → LoneView → LoneView → Bool → Type 0
TellsPoll c i before after result = (r : ClockPart) (list : List Event) → StandsIn c before r list → IsPolled c i after r list result
