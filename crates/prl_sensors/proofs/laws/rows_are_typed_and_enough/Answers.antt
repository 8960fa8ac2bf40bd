use Rattle.prl_sensors.proofs.TypedRows.{rows_of_text}
use Rattle.prl_sensors.proofs.laws.rows_are_typed_and_enough.Goals as goal

pub returns : goal.returns
returns c = rows_of_text c.index_has_the_name.ensures
