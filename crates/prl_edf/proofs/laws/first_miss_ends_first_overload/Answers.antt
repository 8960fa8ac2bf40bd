use Rattle.prl_edf.proofs.FirstOverload.{first_overload, one_first_overload}
use Rattle.prl_edf.proofs.laws.first_miss_ends_first_overload.Goals as goal

pub returns : goal.returns
returns c = record { end = first_overload; one = one_first_overload }
