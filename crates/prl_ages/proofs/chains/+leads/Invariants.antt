use Rattle.prl_base.proofs.Standard.{length}
use Rattle.prl_ages.proofs.chains.+leads.Given as goal

abbrev pub decreases-leads : goal.decreases-leads
decreases-leads l = length l.chain.now
