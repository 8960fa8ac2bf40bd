use Rattle.prl_dates.specs.code.Tables.{AreRound}
use Rattle.prl_dates.proofs.rounds.round.Given as goal

abbrev pub invariant-loop-l : goal.invariant-loop-l
invariant-loop-l l = AreRound l.graph l.lanes l.l l.now l.next
