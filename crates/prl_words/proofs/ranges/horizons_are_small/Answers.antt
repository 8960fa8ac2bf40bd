use Rattle.prl_words.proofs.HorizonNumbers.{jobs_small, end_small}
use Rattle.prl_words.proofs.ranges.horizons_are_small.Goals as goal

pub returns : goal.returns
returns c = record { jobs = jobs_small; end = end_small }
