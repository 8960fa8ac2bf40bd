use Rattle.std.proofs.Common.{◌<◌, ℕ}
use Rattle.prl_track.specs.Vocabulary.{run_of, IsNotEarlier}
use Rattle.prl_track.proofs.tracks.Track.is_overtaken.Given as goal

-- the tasks so far stay after
abbrev pub invariant-loop-j : goal.invariant-loop-j
invariant-loop-j l = (j : ℕ) → j < l.j → IsNotEarlier (run_of l.self) l.self.state j l.processor l.deadline
