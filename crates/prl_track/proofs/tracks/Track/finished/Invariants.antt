use Rattle.std.proofs.Common.{◌<◌, ◌≤◌, ℕ}
use Rattle.prl_plan.specs.Rules.{first_unfinished}
use Rattle.prl_track.specs.Tracks.{run_of}
use Rattle.prl_track.proofs.tracks.Track.finished.Given as goal

-- the tasks so far have ended their horizon jobs
abbrev pub invariant-loop-j : goal.invariant-loop-j
invariant-loop-j l = (j : ℕ) → j < l.j → (run_of l.self).jobs j ≤ first_unfinished l.self.state j
