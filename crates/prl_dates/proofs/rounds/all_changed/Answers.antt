use Rattle.prl_base.proofs.Standard.{arith}
use Rattle.prl_dates.proofs.Rises.{first_below}
use Rattle.prl_dates.proofs.rounds.all_changed.Goals as goal

pub returns-clause-all : goal.returns-clause-all
returns-clause-all c = λ q below. (q, c.loop-job.invariant.each q (omega (arith, below)))

pub returns-clause-below : goal.returns-clause-below
returns-clause-below c = first_below c.loop-job.last.items c.loop-job.job c.args.jobs c.loop-job.invariant.long c.loop-job.invariant.each (omega arith)
