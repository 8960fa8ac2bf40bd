use Rattle.prl_dates.specs.code.Spreads.{AreRaisedAcross}
use Rattle.prl_dates.proofs.spreads.raise_across.Given as goal

abbrev pub invariant-loop-l : goal.invariant-loop-l
invariant-loop-l l = AreRaisedAcross l.graph l.lanes l.processors l.l l.deadlines l.fn.ends l.ends
