use Rattle.std.proofs.Common.{arith}
use Rattle.prl_track.proofs.TrackSteps.{cursor_fits, cursor_inside, passed_view, passes_on, place_fits, place_inside, reads_on}
use Rattle.prl_track.proofs.tracks.Track.pass.Goals as goal

pub index_mut-requires : goal.index_mut-requires
index_mut-requires c = omega (arith, place_inside c.self.view_is c.self.invariant c.args.task c.requires.allowed, c.self.inside.places.ok.0)

pub overflow_add-index_mut : goal.overflow_add-index_mut
overflow_add-index_mut c =
    omega (arith, place_fits c.self.view_is c.self.invariant c.args.task c.requires.allowed (reads_on _ c.requires.reads) c.index_mut.result.now c.index_mut.ensures.value)

pub moved-requires : goal.moved-requires
moved-requires c =
    cursor_fits c.self.view_is c.self.invariant c.args.task c.requires.allowed
    (reads_on _ c.requires.reads) c.args.cursor c.requires.at

pub index_mut-requires-2 : goal.index_mut-requires-2
index_mut-requires-2 c = omega (arith, cursor_inside c.self.view_is c.self.invariant c.args.task c.requires.allowed, c.self.inside.cursors.ok.0)

pub invariant_of-self : goal.invariant_of-self
invariant_of-self c =
    passes_on c.self.view_is c.self.invariant c.args.task c.requires.allowed
    c.index_mut.result.now c.index_mut.ensures.value c.args.cursor c.moved.result c.requires.at c.moved.ensures c.requires.reads

pub returns : goal.returns
returns c =
    passed_view c.self.view_is c.self.invariant c.args.task c.requires.allowed
    c.index_mut.result.now c.index_mut.ensures.value
