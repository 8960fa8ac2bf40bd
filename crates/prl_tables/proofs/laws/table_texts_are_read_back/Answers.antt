use Rattle.prl_tables.proofs.ReadBack.{text_back}
use Rattle.prl_tables.proofs.laws.table_texts_are_read_back.Goals as goal

pub returns : goal.returns
returns _ = text_back
