use Rattle.prl_tables.proofs.OrderLaws.{class_end}
use Rattle.prl_tables.proofs.laws.class_has_end.Goals as goal

pub returns : goal.returns
returns _ = class_end
