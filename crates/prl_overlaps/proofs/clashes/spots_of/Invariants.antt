use Rattle.prl_overlaps.proofs.Spotted.{HaveSpots}
use Rattle.prl_overlaps.proofs.clashes.spots_of.Given as goal

-- the spots of the entries so far
abbrev pub invariant-loop-k : goal.invariant-loop-k
invariant-loop-k l = HaveSpots l.hyper l.entries l.spots.items l.k
