use Rattle.prl_track.proofs.TrackSteps.{ticks_on}
use Rattle.prl_track.proofs.tracks.Track.go_on.Goals as goal

pub invariant_of-self : goal.invariant_of-self
invariant_of-self c = ticks_on c.self.view_is c.self.invariant c.requires
