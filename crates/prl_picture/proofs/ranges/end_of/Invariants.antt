use Rattle.std.proofs.Common.{◌≤◌, ◌<◌, ◌^◌}
use Rattle.prl_picture.proofs.ranges.end_of.Given as goal

-- no earlier than the tick, and small
abbrev pub invariant-loop-r : goal.invariant-loop-r
invariant-loop-r l = (l.until ≤ l.end) × (l.end < 2 ^ 33)
