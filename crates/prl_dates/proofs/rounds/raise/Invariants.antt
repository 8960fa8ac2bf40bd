use Rattle.prl_dates.specs.code.Tables.{AreRaised}
use Rattle.prl_dates.proofs.rounds.raise.Given as goal

abbrev pub invariant-loop-k : goal.invariant-loop-k
invariant-loop-k l = AreRaised l.lane l.wcet l.k l.now l.fn.next l.next
