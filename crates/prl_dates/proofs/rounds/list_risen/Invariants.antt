use Rattle.prl_dates.proofs.Rises.{RisenSoFar}
use Rattle.prl_dates.proofs.rounds.list_risen.Given as goal

abbrev pub invariant-loop-job : goal.invariant-loop-job
invariant-loop-job l = RisenSoFar l.now l.next l.job l.rises.items
