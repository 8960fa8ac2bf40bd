use Rattle.prl_dates.proofs.Rises.{AreTakenOver}
use Rattle.prl_dates.proofs.rounds.take_over.Given as goal

abbrev pub invariant-loop-job : goal.invariant-loop-job
invariant-loop-job l = AreTakenOver l.rises l.job-index l.fn.now l.next l.now
