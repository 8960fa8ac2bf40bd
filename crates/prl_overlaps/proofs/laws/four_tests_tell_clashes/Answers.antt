use Rattle.prl_overlaps.proofs.FourTests.{seen, is_clash}
use Rattle.prl_overlaps.proofs.laws.four_tests_tell_clashes.Goals as goal

pub returns-clause-seen : goal.returns-clause-seen
returns-clause-seen _ = seen

pub returns-clause-other : goal.returns-clause-other
returns-clause-other _ = is_clash
