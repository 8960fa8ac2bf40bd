use Rattle.prl_clock.proofs.Wholes.{solution_clocks}
use Rattle.prl_clock.proofs.laws.solutions_have_clocks.Goals as goal

pub returns : goal.returns
returns c = solution_clocks
