use Rattle.prl_terms.proofs.MarkLemmas.{AreMarked}
use Rattle.prl_terms.proofs.solving.relabel.Given as goal

abbrev pub invariant-loop-k : goal.invariant-loop-k
invariant-loop-k l = AreMarked l.members l.by l.initial.marks.items l.marks.items l.k-index
