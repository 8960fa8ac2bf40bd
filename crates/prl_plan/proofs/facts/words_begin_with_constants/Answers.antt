use Rattle.prl_plan.proofs.WordNumbers.{first_after_prefix, one_first}
use Rattle.prl_plan.proofs.facts.words_begin_with_constants.Goals as goal

pub returns : goal.returns
returns c = record { first = first_after_prefix; one = one_first }
