use Rattle.prl_base.proofs.Lowest.{lowest_only}
use Rattle.prl_base.proofs.ratios.Ratio.law_of_lowest_terms.Goals as goal

pub returns : goal.returns
returns c = lowest_only
