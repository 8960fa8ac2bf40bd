use Rattle.prl_names.proofs.Right.{named}
use Rattle.prl_expand.proofs.Existence.{expansion}
use Rattle.prl_expand.proofs.laws.programs_have_expansions.Goals as goal

pub returns : goal.returns
returns c = λ p asked main types typed. expansion p main (named p asked main typed.names)
