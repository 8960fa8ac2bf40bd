use Rattle.prl_table.proofs.OneMake.{made_or_fault, one_make_fault}
use Rattle.prl_table.proofs.laws.makes_end_one_way.Goals as goal

pub returns-clause-not_both : goal.returns-clause-not_both
returns-clause-not_both c = made_or_fault c.make_laws.ensures

pub returns-clause-one : goal.returns-clause-one
returns-clause-one c = one_make_fault c.make_laws.ensures
