use Rattle.prl_tables.proofs.OneFault.{good_or_fault, one_fault}
use Rattle.prl_tables.proofs.laws.checks_end_one_way.Goals as goal

pub returns-clause-not_both : goal.returns-clause-not_both
returns-clause-not_both c = good_or_fault

pub returns-clause-one : goal.returns-clause-one
returns-clause-one c = one_fault
