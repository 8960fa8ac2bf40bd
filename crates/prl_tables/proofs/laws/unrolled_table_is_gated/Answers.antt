use Rattle.prl_plan.specs.Horizons.{constants_of}
use Rattle.prl_tables.specs.Tables.{last_unit}
use Rattle.prl_tables.proofs.laws.unrolled_table_is_gated.Goals as goal

pub returns-clause-gated : goal.returns-clause-gated
returns-clause-gated c = λ plan horizon is of entries good.
    c.placed_list_is_gated.ensures.gated (constants_of plan horizon) (c.plans_keep_facts.ensures plan horizon is of)
    (c.actions_end_once.ensures plan horizon) (last_unit plan.graph entries) (c.good_table_is_placing.ensures plan horizon is of entries good)

pub returns-clause-complete : goal.returns-clause-complete
returns-clause-complete c = λ plan horizon is of entries good.
    c.placed_list_is_gated.ensures.complete (constants_of plan horizon) (c.plans_keep_facts.ensures plan horizon is of)
    (c.actions_end_once.ensures plan horizon) (last_unit plan.graph entries) (c.good_table_is_placing.ensures plan horizon is of entries good)
