use Rattle.prl_track.specs.Vocabulary.{run_of, IsChoice}
use Rattle.prl_track.proofs.tracks.Track.earliest.Given as goal

-- the choice among the tasks so far
abbrev pub invariant-loop-j : goal.invariant-loop-j
invariant-loop-j l = IsChoice (run_of l.self) l.self.state l.j l.best
