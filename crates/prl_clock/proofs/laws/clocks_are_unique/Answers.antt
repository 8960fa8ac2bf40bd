use Rattle.prl_clock.proofs.Wholes.{only_these, solutions_have}
use Rattle.prl_clock.proofs.laws.clocks_are_unique.Goals as goal

pub returns-clause-others : goal.returns-clause-others
returns-clause-others c = only_these

pub returns-clause-solutions : goal.returns-clause-solutions
returns-clause-solutions c = solutions_have
