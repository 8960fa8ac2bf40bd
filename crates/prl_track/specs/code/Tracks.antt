-- What a track keeps beside what is seen of it.
use Rattle.std.specs.Prelude.{◌≡◌, List, Option, length}
use Rattle.prl_plan.specs.Facts.{HasPlanFacts}
use Rattle.prl_plan.specs.Horizons.{IsHorizon}
use Rattle.prl_plan.specs.States.{IsSound}
use Rattle.prl_track.specs.declared.firsts.First.{First}
use Rattle.prl_track.specs.declared.routes.Access.{Access}
use Rattle.prl_track.specs.declared.routes.Cursor.{Cursor}
use Rattle.prl_track.specs.Tracks.{TrackView, run_of}
use Rattle.prl_track.specs.code.Firsts.{AreFirsts}
use Rattle.prl_track.specs.code.Cursors.{AreCursors}
use Rattle.prl_track.specs.Routes.{AreRoutes}

pub record IsTrack (track : TrackView) (firsts : List (Option First)) (routes : List (List Access)) (cursors : List Cursor) : Type 0 where
  pub horizon : IsHorizon track.plan track.horizon
  pub windows : length track.placement.windows ≡ length track.plan.graph.tasks
  pub facts : HasPlanFacts (run_of track)
  pub sound : IsSound (run_of track) track.state
  pub first_jobs : AreFirsts (run_of track) track.state.ended firsts
  pub edges : AreRoutes track.plan.graph routes
  pub standing : AreCursors track.plan track.state.ended track.state.places cursors
