use Rattle.prl_base.proofs.Standard.{◌-◌, ◌≤◌}
use Rattle.prl_ages.proofs.verdicts.ready_job.Given as goal

abbrev pub invariant-more : goal.invariant-more
invariant-more l = l.k ≤ l.most

abbrev pub decreases-more : goal.decreases-more
decreases-more l = l.most - l.k
