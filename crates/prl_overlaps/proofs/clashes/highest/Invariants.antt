use Rattle.prl_overlaps.specs.code.Spots.{IsHighest}
use Rattle.prl_overlaps.proofs.clashes.highest.Given as goal

-- the highest end so far
abbrev pub invariant-loop-spot : goal.invariant-loop-spot
invariant-loop-spot l = IsHighest l.spots l.spot-index l.high
