use Rattle.prl_tables.proofs.GoodTables.{good_is_placing}
use Rattle.prl_tables.proofs.laws.good_table_is_placing.Goals as goal

pub returns : goal.returns
returns c = λ plan horizon is of entries good.
    good_is_placing plan is horizon of (c.plans_keep_facts.ensures plan horizon is of) entries good
