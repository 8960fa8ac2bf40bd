use Rattle.std.proofs.Common.{◌-◌, length}
use Rattle.prl_track.specs.Routes.{IsAt}
use Rattle.prl_track.proofs.routes.stop_at.Given as goal

abbrev pub invariant-loop-at : goal.invariant-loop-at
invariant-loop-at l = IsAt l.plan l.i.0 l.n l.place l.at

abbrev pub decreases-loop-at : goal.decreases-loop-at
decreases-loop-at l = length l.route - l.at.index
