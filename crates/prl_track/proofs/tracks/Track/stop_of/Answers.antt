use Rattle.prl_track.proofs.TrackSteps.{stands_there}
use Rattle.prl_track.proofs.tracks.Track.stop_of.Goals as goal

pub stop-requires-clause-at : goal.stop-requires-clause-at
stop-requires-clause-at c =
    stands_there c.self.view_is c.self.invariant c.args.task c.requires.allowed
    c.args.job c.requires.job c.index.result.now c.index.ensures c.index-2.result.now c.index-2.ensures
