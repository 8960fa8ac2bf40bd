use Rattle.std.proofs.Common.{arith}
use Rattle.prl_track.proofs.TrackSteps.{cursor_fits, cursor_inside, goes_on, place_fits, place_inside, slot_inside, writes_on, written_view}
use Rattle.prl_track.proofs.tracks.Track.write.Goals as goal

pub index_mut-requires : goal.index_mut-requires
index_mut-requires c = omega (arith, place_inside c.self.view_is c.self.invariant c.args.task c.requires.allowed, c.self.inside.places.ok.0)

pub overflow_add-index_mut : goal.overflow_add-index_mut
overflow_add-index_mut c =
    omega (
      arith,
      place_fits c.self.view_is c.self.invariant c.args.task c.requires.allowed
          (goes_on _ c.requires.writes.0 c.args.job c.args.slot c.requires.writes.1) c.index_mut.result.now c.index_mut.ensures.value,
    )

pub moved-requires : goal.moved-requires
moved-requires c =
    cursor_fits c.self.view_is c.self.invariant c.args.task c.requires.allowed
    (goes_on _ c.requires.writes.0 c.args.job c.args.slot c.requires.writes.1) c.args.cursor c.requires.at

pub index_mut-requires-3 : goal.index_mut-requires-3
index_mut-requires-3 c = omega (arith, cursor_inside c.self.view_is c.self.invariant c.args.task c.requires.allowed, c.self.inside.cursors.ok.0)

pub index_mut-requires-2 : goal.index_mut-requires-2
index_mut-requires-2 c =
    omega (arith, slot_inside c.self.view_is c.self.invariant c.args.task c.requires.allowed c.requires.writes.0 c.args.job c.args.slot c.requires.writes.1, c.self.inside.tags.ok.0)

pub invariant_of-self : goal.invariant_of-self
invariant_of-self c =
    writes_on c.self.view_is c.self.invariant c.args.task c.requires.allowed
    c.index_mut.result.now c.index_mut.ensures.value c.args.cursor c.moved.result c.requires.at c.moved.ensures c.requires.writes.0 c.args.job c.args.slot c.requires.writes.1

pub returns : goal.returns
returns c =
    written_view c.self.view_is c.self.invariant c.args.task c.requires.allowed
    c.index_mut.result.now c.index_mut.ensures.value c.requires.writes.0 c.args.job c.args.slot c.requires.writes.1
