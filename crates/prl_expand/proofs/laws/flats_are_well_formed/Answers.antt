use Rattle.prl_expand.proofs.Formed.{flat_formed}
use Rattle.prl_expand.proofs.laws.flats_are_well_formed.Goals as goal

pub returns : goal.returns
returns c = λ p asked main types e range typed expansion few. flat_formed p asked main types range typed e expansion few
