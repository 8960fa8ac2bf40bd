use Rattle.std.proofs.Common.{◌≤◌, ◌<◌, ◌^◌}
use Rattle.prl_picture.proofs.ranges.shortest.Given as goal

-- some period so far, which is small
abbrev pub invariant-loop-r : goal.invariant-loop-r
invariant-loop-r l = (1 ≤ l.least) × (l.least < 2 ^ 32)
