use Rattle.std.proofs.Common.{length}
use Rattle.prl_ways.proofs.jobs.+preceding_job.Given as goal

abbrev pub decreases-preceding_job : goal.decreases-preceding_job
decreases-preceding_job l = length l.ops.now
