use Rattle.prl_tables.proofs.Ends.{has_ends}
use Rattle.prl_tables.proofs.Unrolling.{placed_gated, placed_complete}
use Rattle.prl_tables.proofs.laws.placed_list_is_gated.Goals as goal

pub returns-clause-gated : goal.returns-clause-gated
returns-clause-gated _ = λ c facts one. placed_gated c facts (has_ends c one)

pub returns-clause-complete : goal.returns-clause-complete
returns-clause-complete _ = λ c facts one. placed_complete c facts (has_ends c one)
