use Rattle.std.proofs.Common.{arith}
use Rattle.prl_track.proofs.TrackSteps.{cursor_inside, ended_inside, ended_view, ends_on, first_inside, place_inside, task_inside}
use Rattle.prl_track.proofs.tracks.Track.end.Goals as goal

pub index_mut-requires : goal.index_mut-requires
index_mut-requires c = omega (arith, ended_inside c.self.view_is c.self.invariant c.args.task c.requires.allowed, c.self.inside.ended.ok.0)

pub index_mut-requires-2 : goal.index_mut-requires-2
index_mut-requires-2 c = omega (arith, place_inside c.self.view_is c.self.invariant c.args.task c.requires.allowed, c.self.inside.places.ok.0)

pub index_mut-requires-3 : goal.index_mut-requires-3
index_mut-requires-3 c = omega (arith, cursor_inside c.self.view_is c.self.invariant c.args.task c.requires.allowed, c.self.inside.cursors.ok.0)

pub first_at-requires-clause-task : goal.first_at-requires-clause-task
first_at-requires-clause-task c = task_inside c.self.view_is c.self.invariant c.args.task c.requires.allowed

pub index_mut-requires-4 : goal.index_mut-requires-4
index_mut-requires-4 c = omega (arith, first_inside c.self.view_is c.self.invariant c.args.task c.requires.allowed, c.self.inside.firsts.ok.0)

pub invariant_of-self : goal.invariant_of-self
invariant_of-self c =
    ends_on c.self.view_is c.self.invariant c.args.task c.requires.allowed
    c.args.job c.requires.job c.requires.ends c.first_at.result c.first_at.ensures

pub returns : goal.returns
returns c =
    ended_view c.self.view_is c.self.invariant c.args.task c.requires.allowed
    c.args.job c.requires.job
