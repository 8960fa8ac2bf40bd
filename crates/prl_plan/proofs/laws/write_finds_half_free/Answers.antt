use Rattle.prl_plan.proofs.Legal.{write_finds_free}
use Rattle.prl_plan.proofs.laws.write_finds_half_free.Goals as goal

pub returns : goal.returns
returns c = write_finds_free
