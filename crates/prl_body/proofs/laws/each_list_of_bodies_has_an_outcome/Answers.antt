use Rattle.prl_body.proofs.Outcomes.{checked_told}
use Rattle.prl_body.proofs.laws.each_list_of_bodies_has_an_outcome.Goals as goal

pub returns : goal.returns
returns c = checked_told
