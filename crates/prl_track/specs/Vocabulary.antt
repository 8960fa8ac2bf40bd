-- The words of this crate that clauses and proofs use, from one place.
pub use Rattle.prl_track.specs.Lefts.{left_in}
pub use Rattle.prl_track.specs.Machine.{Drives, IsOfPlan, cell_no}
pub use Rattle.prl_track.specs.Routes.{AreRoutes, IsAccessOf, IsAt, ins_from, is_from, on_access}
pub use Rattle.prl_track.specs.Routes.{on_route, outs_from, route_of}
pub use Rattle.prl_track.specs.Tracks.{IsEarliest, IsIdle, IsNext, TrackView, run_of}
pub use Rattle.prl_track.specs.code.Cursors.{AreCursors, IsReading}
pub use Rattle.prl_track.specs.code.Firsts.{AreFirsts, IsFirst, IsFirstAt, IsFirstOf}
pub use Rattle.prl_track.specs.code.Nexts.{IsChoice, IsChosen, NoneReleased}
pub use Rattle.prl_track.specs.code.Tests.{IsInTime, IsNotEarlier}
pub use Rattle.prl_track.specs.code.Tracks.{IsTrack}
pub use Rattle.prl_track.specs.declared.firsts.Chosen.{Chosen}
pub use Rattle.prl_track.specs.declared.firsts.First.{First}
pub use Rattle.prl_track.specs.declared.routes.Access.{Access}
pub use Rattle.prl_track.specs.declared.routes.Cursor.{Cursor}
