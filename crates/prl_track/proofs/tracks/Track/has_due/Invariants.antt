use Rattle.std.proofs.Common.{◌<◌, ℕ}
use Rattle.prl_track.specs.Vocabulary.{run_of, IsInTime}
use Rattle.prl_track.proofs.tracks.Track.has_due.Given as goal

-- the tasks so far are in time
abbrev pub invariant-loop-j : goal.invariant-loop-j
invariant-loop-j l = (j : ℕ) → j < l.j → IsInTime (run_of l.self) l.self.state j
