-- What is seen of a track, and the event that comes next.
use Rattle.std.specs.Prelude.{◌<◌, ◌≤◌, ℕ, Option, Some, None}
use Rattle.prl_plan.specs.declared.events.Event.{Event}
use Rattle.prl_plan.specs.declared.events.Event.TheVariants as events
use Rattle.prl_plan.specs.declared.horizons.Horizon.{Horizon}
use Rattle.prl_plan.specs.Plans.{PlanView}
use Rattle.prl_plan.specs.Horizons.{Placement, alone, constants_on}
use Rattle.prl_plan.specs.Runs.{RunConstants, ExecState, opening}
use Rattle.prl_plan.specs.Rules.{first_unfinished, IsUnfinished, HasJob, ActsReleased, IsComplete}

-- what is seen of a track: its plan, where the tasks run, its horizon, and the state of the run
pub record TrackView : Type 0 where
  pub plan : PlanView
  pub placement : Placement
  pub horizon : Horizon
  pub state : ExecState

-- the constants of its run
abbrev pub run_of : TrackView → RunConstants
run_of track = constants_on track.plan track.placement track.horizon

-- a track before the first event
abbrev pub opened_on : PlanView → Placement → Horizon → TrackView
opened_on plan placement horizon = record { plan = plan; placement = placement; horizon = horizon; state = opening (constants_on plan placement horizon) }

-- where all tasks run on one processor
abbrev pub opened : PlanView → Horizon → TrackView
opened plan horizon = opened_on plan (alone plan) horizon

-- Task i has a released unfinished job; of all such jobs its first one is due earliest, and that of no lower task is due as
-- early.
pub record IsEarliest (c : RunConstants) (s : ExecState) (i : ℕ) : Type 0 where
  pub job : HasJob c s i
  pub released : ActsReleased c s i
  pub first : (j n : ℕ) → IsUnfinished c s j n → c.release j n ≤ s.now → c.deadline i (first_unfinished s i) ≤ c.deadline j n
  pub lowest : (j : ℕ) → j < i → HasJob c s j → ActsReleased c s j →
      c.deadline i (first_unfinished s i) < c.deadline j (first_unfinished s j)

-- some horizon job has not ended, and none of these is released
pub record IsIdle (c : RunConstants) (s : ExecState) : Type 0 where
  pub left : (i : ℕ) × (n : ℕ) × IsUnfinished c s i n
  pub none : (i n : ℕ) → IsUnfinished c s i n → s.now < c.release i n

-- The event that comes next: none where every horizon job has ended; else an act of the released job that is due earliest,
-- of the lowest such task; or a tick where none is released.
abbrev pub IsNext : RunConstants → ExecState → Option Event → Type 0
IsNext c s None = IsComplete c s
IsNext c s (Some events.Tick) = IsIdle c s
IsNext c s (Some (events.Act task)) = IsEarliest c s task.0
