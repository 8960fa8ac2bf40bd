use Rattle.prl_names.proofs.Marking.{index_found}
use Rattle.prl_names.proofs.laws.index_has_the_name.Goals as goal

pub returns : goal.returns
returns c = λ names name index found. index_found names name index found
