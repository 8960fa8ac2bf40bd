use Rattle.prl_print.proofs.Meant.{in_range}
use Rattle.prl_print.proofs.laws.programs_are_in_range.Goals as goal

pub returns : goal.returns
returns c = λ text p h. in_range text p h
