-- The state of an executive, and what events make of it.
use Rattle.std.specs.Prelude.{◌+◌, ℕ, List, [], ◌∷◌, replicate, slice_index, slice_index_or, slice_set}
use Rattle.prl_plan.specs.declared.events.Action.{Action}
use Rattle.prl_plan.specs.declared.events.Action.TheVariants as actions
use Rattle.prl_plan.specs.declared.events.Event.{Event}
use Rattle.prl_plan.specs.declared.events.Event.TheVariants as events

-- what stays the same over a run
pub record RunConstants : Type 0 where
  pub tasks : ℕ
  -- how many halves of cells there are
  pub slots : ℕ
  -- by task, how many jobs it has in the horizon
  pub jobs : ℕ → ℕ
  -- by task and job, the encoded dates and the actions
  pub release : ℕ → ℕ → ℕ
  pub deadline : ℕ → ℕ → ℕ
  pub actions : ℕ → ℕ → List Action
  -- by task, the processor that it runs on
  pub processor : ℕ → ℕ
  -- the greatest encoded deadline
  pub end : ℕ

pub record ExecState : Type 0 where
  pub now : ℕ
  -- by task, how many jobs have ended, and the place in the next job's list of actions
  pub ended : List ℕ
  pub places : List ℕ
  -- by cell, the instance in it plus 1, or 0
  pub tags : List ℕ

abbrev pub opening : RunConstants → ExecState
opening c = record { now = 0; ended = replicate c.tasks 0; places = replicate c.tasks 0; tags = replicate c.slots 0 }

-- the action at a place of job n of task i; after the last one stands the job's end
abbrev pub action_at : RunConstants → ℕ → ℕ → ℕ → Action
action_at c i n place = slice_index_or (c.actions i n) place actions.End

-- the next action of task i
abbrev pub next_action : RunConstants → ExecState → ℕ → Action
next_action c s i = action_at c i (slice_index s.ended i) (slice_index s.places i)

-- the state after a next action that does not end the job: the place moves
abbrev pub moved : ExecState → ℕ → ExecState
moved s i = record s { places = slice_set s.places i (slice_index s.places i + 1) }

abbrev pub after_action : ExecState → ℕ → Action → ExecState
after_action s i (actions.ReadConst port value) = moved s i
after_action s i (actions.Read port edge instance cell) = moved s i
after_action s i (actions.Write edge instance cell) = record (moved s i) { tags = slice_set s.tags cell.0 (instance + 1) }
after_action s i actions.End =
    record s { ended = slice_set s.ended i (slice_index s.ended i + 1); places = slice_set s.places i 0 }

abbrev pub after_event : RunConstants → ExecState → Event → ExecState
after_event c s events.Tick = record s { now = s.now + 1 }
after_event c s (events.Act task) = after_action s task.0 (next_action c s task.0)

-- the state after a list of events
abbrev pub after_events : RunConstants → ExecState → List Event → ExecState
after_events c s [] = s
after_events c s (event ∷ events) = after_events c (after_event c s event) events
