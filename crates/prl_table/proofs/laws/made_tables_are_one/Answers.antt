use Rattle.prl_table.proofs.OneTable.{one_table}
use Rattle.prl_table.proofs.laws.made_tables_are_one.Goals as goal

pub returns : goal.returns
returns c = one_table c.make_laws.ensures c.made_table_is_good.ensures
