use Rattle.prl_terms.proofs.Ending.{AreKnown}
use Rattle.prl_terms.proofs.solving.Marks.types.Given as goal

abbrev pub invariant-loop-k : goal.invariant-loop-k
invariant-loop-k l = AreKnown l.self.marks.items l.types.items l.k
