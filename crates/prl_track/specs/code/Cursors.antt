-- Where the open jobs of a track stand, and which actions read.
use Rattle.std.specs.Prelude.{◌≡◌, ℕ, List, length, Some, slice_get, slice_index}
use Rattle.prl_plan.specs.declared.events.Action.{Action}
use Rattle.prl_plan.specs.declared.events.Action.TheVariants as actions
use Rattle.prl_plan.specs.Plans.{PlanView}
use Rattle.prl_track.specs.declared.routes.Cursor.{Cursor}
use Rattle.prl_track.specs.Routes.{IsAt}

-- each cursor is at its task's place
pub record AreCursors (plan : PlanView) (ended places : List ℕ) (cursors : List Cursor) : Type 0 where
  pub tasks : length cursors ≡ length plan.graph.tasks
  pub each : (i : ℕ) (cursor : Cursor) → slice_get cursors i ≡ Some cursor → IsAt plan i (slice_index ended i) (slice_index places i) cursor

-- the action reads a constant or a half of an instance
abbrev pub IsReading : Action → Type 0
IsReading (actions.ReadConst port value) = Unit {0}
IsReading (actions.Read port edge instance slot) = Unit {0}
IsReading (actions.Write edge instance slot) = ⊥
IsReading actions.End = ⊥
