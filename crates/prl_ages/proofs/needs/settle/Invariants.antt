use Rattle.prl_ages.specs.code.Rising.{AreFound, room}
use Rattle.prl_ages.proofs.needs.settle.Given as goal

abbrev pub invariant-more : goal.invariant-more
invariant-more l = AreFound l.plan.graph l.chain l.a.0 l.k l.counts

abbrev pub decreases-more : goal.decreases-more
decreases-more l = room l.counts
